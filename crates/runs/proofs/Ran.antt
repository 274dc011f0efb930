-- A 400 read in one go. Assumes nothing.
use Rattle.std.proofs.Common.{Option, Some, None}
use Prim.Native.Nat.{ℕ, ◌+◌, ◌-◌, ◌<◌}
use mathlib.Core.Path.{◌≡◌, refl, sym, ◌∙◌, ap}
use mathlib.Core.List.{List}
use mathlib.Core.Bool.{Bool, true, false, cond, not}
use native.Mathlib.Omega.{arith}
use lib.ListN.{length, take, drop}
use lib.Seq.{length-take-le, take_all}
use lib.Dec.{eqb}
use borrow.Author.Tests.{not-true, not-false}
use Rattle.ground.specs.Lists.{span_of, other, part}
use Rattle.ground.proofs.Spans.{span-le, part_length}
use Rattle.format.specs.Numbers.{is_number, number_in, interval_of, reason_of}
use Rattle.format.specs.Quality.{is_graded, flag_in, method_in, quality_of, grade}
use Rattle.format.specs.Texts.{is_description}
use Rattle.format.specs.Cut.{fields, field, start_of}
use Rattle.format.specs.Records.{no_scale, row_of, count_of, rule_of, obeys, first_in, last_in}
use Rattle.format.specs.Day.{tag_at}
use Rattle.format.specs.declared.Rule.{Rule}
use Rattle.format.specs.declared.Rule.TheVariants.{Interval, Quality, Reason, Description}
use Rattle.format.specs.Faults.{fault_in, Fine}
use Rattle.format.proofs.Cut.{field-here, start-next, start-end}
use Rattle.lines.specs.Places.{Starts}
use Rattle.record.specs.Walk.{Typed, Along, Broken}
use Rattle.runs.specs.Ran.{Spans, Grades, Ran}
use Rattle.lines.proofs.Cuts.{first-is, rest_at, rest-first}
use Rattle.says.proofs.Fields.{tag-eq}
use Rattle.tries.proofs.Holds.{held_to, held-broken}
use Rattle.record.proofs.Turns.{left, along-on, along-stops, obeyed-all}
use Rattle.format.specs.declared.Grade.{Grade}

-- the rules of its fields
pub row_first : Interval ≡ rule_of 400 no_scale 1
unfolding rule_of row_of
row_first = refl

pub row_last : Interval ≡ rule_of 400 no_scale 2
unfolding rule_of row_of
row_last = refl

pub row-quality : Quality ≡ rule_of 400 no_scale 3
unfolding rule_of row_of
row-quality = refl

pub row-reason : Reason ≡ rule_of 400 no_scale 4
unfolding rule_of row_of
row-reason = refl

pub row-description : Description ≡ rule_of 400 no_scale 5
unfolding rule_of row_of
row-description = refl

module _ (file : List ℕ) (at e : ℕ) (y : Typed file at e 400 no_scale) where
  abbrev pub fs : List (List ℕ)
  fs = fields (part file at e)

  six : length fs ≡ 6
  unfolding count_of row_of
  six = y.count

  module _ (i b : ℕ) (l : Along file at e 400 no_scale i b) (few : i < 6) where
    pub behind : b < e
    behind = left file at e 400 no_scale i b y l (omega (arith, six))

    pub starts : Starts file fs at i (b + 1) e
    starts =
        let p : b + 1 ≡ at + start_of i fs = l.here in
        record { place = p; rest = rw p (rest_at file at e i y.order y.within (omega (arith, six))) }

    -- m is what `field_end` answers of the record from `b + 1` on
    module _ (m : ℕ) (em : m ≡ span_of (other 44) (take (e - (b + 1)) (drop (b + 1) file))) where
      pub said : take (b + 1 + m - (b + 1)) (drop (b + 1) file) ≡ field i fs
      said = first-is file (b + 1) e m (omega (arith, behind)) y.within em ∙ rest-first starts.rest

      module _ (x : Rule) (ex : x ≡ rule_of 400 no_scale i) {o : Bool} (eo : o ≡ obeys 400 x (take (b + 1 + m - (b + 1)) (drop (b + 1) file))) where
        run_on : o ≡ true → Along file at e 400 no_scale (i + 1) (b + 1 + m)
        run_on t =
            along-on file at e 400 no_scale i b y l x (Some (b + 1 + m)) behind ex (held_to file (b + 1) e m 400 x (omega (arith, behind)) y.within em eo t) refl

        run-stops : o ≡ false → Broken file at e 400 no_scale (b + 1 - at) (i + 1)
        run-stops t =
            along-stops file at e 400 no_scale i b y l x None behind ex (held-broken file (b + 1) e m 400 x (omega (arith, behind)) y.within em eo t) refl

      -- x is what the rule of an interval answers
      module _ (ei : Interval ≡ rule_of 400 no_scale i) {x : Option ℕ} (q : x ≡ interval_of (take (b + 1 + m - (b + 1)) (drop (b + 1) file))) where
        pub interval-on : {v : ℕ} → x ≡ Some v → Along file at e 400 no_scale (i + 1) (b + 1 + m)
        unfolding obeys
        interval-on h = run_on Interval ei (sym (ap is_number (sym q ∙ h))) refl

        pub interval-stops : x ≡ None → Broken file at e 400 no_scale (b + 1 - at) (i + 1)
        unfolding obeys
        interval-stops h = run-stops Interval ei (sym (ap is_number (sym q ∙ h))) refl

        pub interval-is : {v : ℕ} → x ≡ Some v → v ≡ number_in (interval_of (field i fs))
        interval-is h = ap number_in (sym h) ∙ ap number_in (q ∙ ap interval_of said)

      -- g is what the rule of a quality answers
      module _ (ei : Quality ≡ rule_of 400 no_scale i) {g : Option Grade} (q : g ≡ quality_of 400 (take (b + 1 + m - (b + 1)) (drop (b + 1) file))) where
        pub quality-on : {y : Grade} → g ≡ Some y → Along file at e 400 no_scale (i + 1) (b + 1 + m)
        unfolding obeys
        quality-on h = run_on Quality ei (sym (ap is_graded (sym q ∙ h))) refl

        pub quality-stops : g ≡ None → Broken file at e 400 no_scale (b + 1 - at) (i + 1)
        unfolding obeys
        quality-stops h = run-stops Quality ei (sym (ap is_graded (sym q ∙ h))) refl

        quality-is : {y : Grade} → g ≡ Some y → Some (grade y.flag y.method) ≡ quality_of 400 (field i fs)
        quality-is h = sym h ∙ q ∙ ap (quality_of 400) said

      module _ (ei : Reason ≡ rule_of 400 no_scale i) {x : Option ℕ} (q : x ≡ reason_of (take (b + 1 + m - (b + 1)) (drop (b + 1) file))) where
        pub reason-on : {v : ℕ} → x ≡ Some v → Along file at e 400 no_scale (i + 1) (b + 1 + m)
        unfolding obeys
        reason-on h = run_on Reason ei (sym (ap is_number (sym q ∙ h))) refl

        pub reason-stops : x ≡ None → Broken file at e 400 no_scale (b + 1 - at) (i + 1)
        unfolding obeys
        reason-stops h = run-stops Reason ei (sym (ap is_number (sym q ∙ h))) refl

        pub reason-is : {v : ℕ} → x ≡ Some v → v ≡ number_in (reason_of (field i fs))
        reason-is h = ap number_in (sym h) ∙ ap number_in (q ∙ ap reason_of said)

  -- ---- the last field ends where the record does

  module _ (d : ℕ) (l : Along file at e 400 no_scale 5 d) where
    last-long : length (field 5 fs) ≡ e - (d + 1)
    last-long =
        let w : length (part file at e) ≡ e - at = part_length file at e y.within in
        let z : start_of 6 fs ≡ length (part file at e) + 1 = rw six at (start-end (part file at e)) in
        omega (arith, start-next 5 fs (omega (arith, six)), l.here, y.order)

    pub last-is : part file (d + 1) e ≡ field 5 fs
    last-is =
        let s = part file (d + 1) e in
        let r : take (span_of (other 44) s) s ≡ field 5 fs = sym (field-here s) ∙ rest-first (starts 5 d l (omega arith)).rest in
        let n : length (take (span_of (other 44) s) s) ≡ e - (d + 1) = ap length r ∙ last-long in
        let w : length s ≡ e - (d + 1) = part_length file (d + 1) e y.within in
        let k : span_of (other 44) s ≡ length s = omega (arith, length-take-le (span_of (other 44) s) s (span-le (other 44) s)) in
        sym (take_all (span_of (other 44) s) s (omega arith)) ∙ r

    module _ {o : Bool} (q : o ≡ is_description (part file (d + 1) e)) where
      abbrev m : ℕ
      m = span_of (other 44) (part file (d + 1) e)

      held-last : o ≡ obeys 400 Description (take (d + 1 + m - (d + 1)) (drop (d + 1) file))
      unfolding obeys
      held-last = q ∙ ap is_description (last-is ∙ sym (said 5 d l (omega arith) m refl))

      pub description-stops : not o ≡ true → Broken file at e 400 no_scale (d + 1 - at) 6
      description-stops t = run-stops 5 d l (omega arith) m refl Description row-description held-last (not-true o t)

      fine : not o ≡ false → fault_in 400 no_scale 0 0 fs ≡ Fine
      fine t = obeyed-all 400 no_scale fs 6 (omega (arith, six)) (run_on 5 d l (omega arith) m refl Description row-description held-last (not-false o t)).passed

      pub ran : (from to q f v r st : ℕ) → not o ≡ false → Spans file at e from to → Grades file at e q f v → r ≡ number_in (reason_of (field 4 fs))
          → st ≡ cond (eqb (e - (d + 1)) 0) 0 (d + 1)
          → Ran file at e from to q (record { flag = f; method = v; reason = r; start = st; length = e - (d + 1) })
      unfolding tag_at
      ran from to q f v r st t s g er es =
          record {
            fault = fine t;
            spans = s;
            quality = g.place;
            tag = tag-eq (ap flag_in g.is) (ap method_in g.is) er (es ∙ rw (← last-long, l.here)) (sym last-long);
          }

  -- ---- what the next part is told

  pub grades : (b m : ℕ) (l : Along file at e 400 no_scale 3 b) → m ≡ span_of (other 44) (take (e - (b + 1)) (drop (b + 1) file)) → {g : Option Grade} {y : Grade}
      → g ≡ quality_of 400 (take (b + 1 + m - (b + 1)) (drop (b + 1) file)) → g ≡ Some y → Grades file at e (b + 1) y.flag y.method
  grades b m l em q h =
      record { place = starts 3 b l (omega arith); is = quality-is 3 b l (omega arith) m em row-quality q h }

  pub spans : (b m from to : ℕ) (l : Along file at e 400 no_scale 2 b) → m ≡ span_of (other 44) (take (e - (b + 1)) (drop (b + 1) file)) → {x : Option ℕ}
      → from ≡ first_in fs → x ≡ interval_of (take (b + 1 + m - (b + 1)) (drop (b + 1) file)) → x ≡ Some to → Spans file at e from to
  unfolding last_in
  spans b m from to l em ef q h = record { first = ef; last = interval-is 2 b l (omega arith) m em row_last q h }

  pub first : (b m from : ℕ) (l : Along file at e 400 no_scale 1 b) → m ≡ span_of (other 44) (take (e - (b + 1)) (drop (b + 1) file)) → {x : Option ℕ}
      → x ≡ interval_of (take (b + 1 + m - (b + 1)) (drop (b + 1) file)) → x ≡ Some from → from ≡ first_in fs
  unfolding first_in
  first b m from l em q h = interval-is 1 b l (omega arith) m em row_first q h
