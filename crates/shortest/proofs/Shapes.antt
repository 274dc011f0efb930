-- A 300 and a 400 taken apart into their fields, each with what its rule says of it. Assumes nothing.
use Rattle.std.proofs.Common.{Option, Some, None}
use Prim.Native.Nat.{ℕ, zero, suc, ◌+◌}
use mathlib.Core.Path.{◌≡◌, refl, sym, ap, ◌∙◌, subst}
use mathlib.Core.Logic.{◌≢◌}
use mathlib.Core.Bool.{true, ◌&&◌, false≢true}
use mathlib.Core.List.{List, [], ◌∷◌, ◌++◌, map}
use native.Mathlib.Omega.{arith}
use lib.ListN.{length, replicate}
use lib.Seq.{get_or-append-add, take_at}
use lib.Dec.{leb, eqb}
use borrow.Author.Tests.{leb-true}
use Rattle.ground.specs.Lists.{all}
use Rattle.ground.specs.Digits.{is_digit}
use Rattle.ground.proofs.Tests.{and-true}
use Rattle.ground.proofs.Cases.{by}
use Rattle.format.specs.Bytes.{field_byte, are_all}
use Rattle.format.specs.Texts.{is_description}
use Rattle.format.specs.Numbers.{is_number, number_in, number_of, interval_of, reason_of, value_of}
use Rattle.format.specs.Dates.{date_of, time_of, load_of}
use Rattle.format.specs.Quality.{quality_of, is_graded, flag_in, method_in, Mark, grade}
use Rattle.format.specs.Cut.{field}
use Rattle.format.specs.Records.{scale, indicator_of, kind_in, row_of, obeys, date_in, millionths, values_in, update_in, load_in, first_in, last_in, mark_at, mark_in}
use Rattle.format.specs.Order.{is_varied}
use Rattle.format.specs.declared.Rule.{Rule}
use Rattle.format.specs.declared.Rule.TheVariants.{Value, Quality, Reason, Description, Time, Load}
use Rattle.format.proofs.ValueText.{value_same}
use Rattle.theorems.specs.Grammar.{Each, Record, Meets, IsRecord}
use Rattle.format.specs.declared.Grade.{Grade}

-- ---- single fields

pub number_is : (x : Option ℕ) → is_number x ≡ true → x ≡ Some (number_in x)
number_is (Some v) h = refl
number_is None h = absurd (false≢true h)

pub graded-is : (x : Option Grade) → is_graded x ≡ true → x ≡ Some (grade (flag_in x) (method_in x))
graded-is (Some g) h = refl
graded-is None h = absurd (false≢true h)

-- a value with at most d decimals is the number that is read of it, whatever d is
pub value-is : (d : ℕ) (s : List ℕ) → is_number (value_of d s) ≡ true → value_of d s ≡ Some (millionths s)
unfolding millionths
value-is d s h = let e = number_is (value_of d s) h in e ∙ ap Some (sym (ap number_in (value_same d s (number_in (value_of d s)) e)))

-- an indicator has three bytes
pub indicator-long : (f : List ℕ) (fs : Record) (k : ℕ) → kind_in (f ∷ fs) ≡ k → k ≢ 0 → length f ≡ 3
unfolding kind_in indicator_of number_of are_all
indicator-long f fs k e z =
    by (are_all is_digit 3 3 f)
    (λ t.
    let w = and-true (leb 3 (length f) && leb (length f) 3) (all is_digit f) t in
    let v = and-true (leb 3 (length f)) (leb (length f) 3) w.0 in
    omega (arith, leb-true 3 (length f) v.0, leb-true (length f) 3 v.1))
    (λ t. absurd (z (sym e ∙ rw t)))

-- ---- what a 300 and a 400 say, by their fields

-- the mark that these three fields say, in a record of the kind k
abbrev pub said : ℕ → List ℕ → List ℕ → List ℕ → Mark
said k q s x = record { flag = flag_in (quality_of k q); method = method_in (quality_of k q); reason = number_in (reason_of s); text = x }

-- a 300: indicator, date, values, quality, reason, description, update time, load time
abbrev pub top_row : List ℕ → List ℕ → List (List ℕ) → List ℕ → List ℕ → List ℕ → List ℕ → List ℕ → Record
top_row i t vs q s x u l = i ∷ t ∷ (vs ++ (q ∷ s ∷ x ∷ u ∷ l ∷ []))

-- a 400: indicator, start, end, quality, reason, description
abbrev pub run_row : List ℕ → List ℕ → List ℕ → List ℕ → List ℕ → List ℕ → Record
run_row i a b q s x = i ∷ a ∷ b ∷ q ∷ s ∷ x ∷ []

pub record TopSays (n : ℕ) (fs : Record) (t : List ℕ) (vs : List (List ℕ)) (q s x u l : List ℕ) : Type 0 where
  pub date : date_in fs ≡ number_in (date_of t)
  pub values : values_in n fs ≡ map millionths vs
  pub mark : mark_at 300 (n + 2) fs ≡ said 300 q s x
  pub varied : is_varied n fs ≡ eqb (flag_in (quality_of 300 q)) 86
  pub update : update_in n fs ≡ number_in (time_of u)
  pub load : load_in n fs ≡ number_in (load_of l)

module _ (i t : List ℕ) (vs : List (List ℕ)) (q s x u l : List ℕ) (n : ℕ) (e : length vs ≡ n) where
  behind : (k j : ℕ) → k ≡ n + 2 + j → field k (top_row i t vs q s x u l) ≡ field j (q ∷ s ∷ x ∷ u ∷ l ∷ [])
  behind k j h =
      let g : k ≡ suc (suc (length vs + j)) = omega arith in
      rw g (get_or-append-add vs (q ∷ s ∷ x ∷ u ∷ l ∷ []) j [])

  pub top-says : TopSays n (top_row i t vs q s x u l) t vs q s x u l
  unfolding date_in values_in mark_at is_varied update_in load_in
  top-says =
      record {
        date = refl;
        values = ap (map millionths) (take_at vs (q ∷ s ∷ x ∷ u ∷ l ∷ []) n e);
        mark = rw (behind (n + 2) 0 (omega arith), behind (n + 2 + 1) 1 refl, behind (n + 2 + 2) 2 refl);
        varied = rw (behind (n + 2) 0 (omega arith));
        update = rw (behind (n + 5) 3 (omega arith));
        load = rw (behind (n + 6) 4 (omega arith));
      }

pub record RunSays (fs : Record) (a b q s x : List ℕ) : Type 0 where
  pub first : first_in fs ≡ number_in (interval_of a)
  pub last : last_in fs ≡ number_in (interval_of b)
  pub mark : mark_in fs ≡ said 400 q s x

pub run-says : (i a b q s x : List ℕ) → RunSays (run_row i a b q s x) a b q s x
unfolding first_in last_in mark_at
run-says i a b q s x = record { first = refl; last = refl; mark = refl }

-- ---- a 300

-- n values of at most d decimals, and fields that meet the other rules behind them
record Valued (k n d : ℕ) (us : List Rule) (fs : Record) : Type 0 where
  values : List (List ℕ)
  tail : Record
  is : fs ≡ values ++ tail
  count : length values ≡ n
  each : Each (λ v. is_number (value_of d v) ≡ true) values
  meets : Meets k us tail

valued : (k n d : ℕ) (us : List Rule) (fs : Record) → Meets k (replicate n (Value d) ++ us) fs → Valued k n d us fs
unfolding obeys
valued k zero d us fs h = record { values = []; tail = fs; is = refl; count = refl; each = tt; meets = h }
valued k (suc n) d us [] h = absurd h
valued k (suc n) d us (f ∷ fs) h =
    let w = valued k n d us fs h.2 in
    record { values = f ∷ w.values; tail = w.tail; is = ap (λ (l : Record). f ∷ l) w.is; count = ap suc w.count; each = (h.1, w.each); meets = w.meets }

-- quality, reason and description of a record of the kind k
pub record Marking (k : ℕ) (quality reason text : List ℕ) : Type 0 where
  pub graded : is_graded (quality_of k quality) ≡ true
  pub reasoned : is_number (reason_of reason) ≡ true
  pub described : is_description text ≡ true
  pub bytes : all field_byte text ≡ true

pub record Top (n d : ℕ) (fs : Record) : Type 0 where
  pub indicator : List ℕ
  pub date : List ℕ
  pub values : List (List ℕ)
  pub quality : List ℕ
  pub reason : List ℕ
  pub text : List ℕ
  pub update : List ℕ
  pub load : List ℕ
  pub is : fs ≡ top_row indicator date values quality reason text update load
  pub count : length values ≡ n
  pub long : length indicator ≡ 3
  pub dated : is_number (date_of date) ≡ true
  pub valued : Each (λ v. is_number (value_of d v) ≡ true) values
  pub marking : Marking 300 quality reason text
  pub updated : is_number (time_of update) ≡ true
  pub loaded : is_number (load_of load) ≡ true
  pub says : TopSays n fs date values quality reason text update load

-- the last five fields of a 300
record Last (fs : Record) : Type 0 where
  quality : List ℕ
  reason : List ℕ
  text : List ℕ
  update : List ℕ
  load : List ℕ
  is : fs ≡ quality ∷ reason ∷ text ∷ update ∷ load ∷ []
  marking : Marking 300 quality reason text
  updated : is_number (time_of update) ≡ true
  loaded : is_number (load_of load) ≡ true

last : (fs : Record) → Meets 300 (Quality ∷ Reason ∷ Description ∷ Time ∷ Load ∷ []) fs → Last fs
unfolding obeys
last [] h = absurd h
last (a ∷ []) h = absurd h.2
last (a ∷ b ∷ []) h = absurd h.2.2
last (a ∷ b ∷ c ∷ []) h = absurd h.2.2.2
last (a ∷ b ∷ c ∷ d ∷ []) h = absurd h.2.2.2.2
last (a ∷ b ∷ c ∷ d ∷ e ∷ []) h =
    record {
      quality = a;
      reason = b;
      text = c;
      update = d;
      load = e;
      is = refl;
      marking = record { graded = h.1; reasoned = h.2.1; described = h.2.2.1; bytes = h.2.2.0.0 };
      updated = h.2.2.2.1;
      loaded = h.2.2.2.2.1;
    }
last (a ∷ b ∷ c ∷ d ∷ e ∷ f ∷ fs) h = absurd h.2.2.2.2.2

pub top_of : (n d : ℕ) (fs : Record) → IsRecord 300 n d fs → Top n d fs
unfolding row_of obeys
top_of n d fs r = go fs r.indicator r.meets
  where
    go : (fs : Record) → kind_in fs ≡ 300 → Meets 300 (row_of 300 (scale n d)) fs → Top n d fs
    go [] i h = absurd h
    go (a ∷ []) i h = absurd h.2
    go (a ∷ b ∷ fs') i h =
        let v = valued 300 n d (Quality ∷ Reason ∷ Description ∷ Time ∷ Load ∷ []) fs' h.2.2 in
        let w = last v.tail v.meets in
        let e : fs' ≡ v.values ++ (w.quality ∷ w.reason ∷ w.text ∷ w.update ∷ w.load ∷ []) = v.is ∙ ap (λ (l : Record). v.values ++ l) w.is in
        record {
          indicator = a;
          date = b;
          values = v.values;
          quality = w.quality;
          reason = w.reason;
          text = w.text;
          update = w.update;
          load = w.load;
          is = ap (λ (l : Record). a ∷ b ∷ l) e;
          count = v.count;
          long = indicator-long a (b ∷ fs') 300 i (λ z. omega arith);
          dated = h.2.1;
          valued = v.each;
          marking = w.marking;
          updated = w.updated;
          loaded = w.loaded;
          says =
              subst (λ (l : Record). TopSays n (a ∷ b ∷ l) b v.values w.quality w.reason w.text w.update w.load) (sym e)
              (top-says a b v.values w.quality w.reason w.text w.update w.load n v.count);
        }

-- ---- a 400

pub record Stretch (fs : Record) : Type 0 where
  pub indicator : List ℕ
  pub start : List ℕ
  pub end : List ℕ
  pub quality : List ℕ
  pub reason : List ℕ
  pub text : List ℕ
  pub is : fs ≡ run_row indicator start end quality reason text
  pub long : length indicator ≡ 3
  pub started : is_number (interval_of start) ≡ true
  pub ended : is_number (interval_of end) ≡ true
  pub marking : Marking 400 quality reason text
  pub says : RunSays fs start end quality reason text

pub stretch-of : (fs : Record) → IsRecord 400 0 0 fs → Stretch fs
unfolding row_of obeys
stretch-of fs r = go fs r.indicator r.meets
  where
    go : (fs : Record) → kind_in fs ≡ 400 → Meets 400 (row_of 400 (scale 0 0)) fs → Stretch fs
    go [] i h = absurd h
    go (a ∷ []) i h = absurd h.2
    go (a ∷ b ∷ []) i h = absurd h.2.2
    go (a ∷ b ∷ c ∷ []) i h = absurd h.2.2.2
    go (a ∷ b ∷ c ∷ d ∷ []) i h = absurd h.2.2.2.2
    go (a ∷ b ∷ c ∷ d ∷ e ∷ []) i h = absurd h.2.2.2.2.2
    go (a ∷ b ∷ c ∷ d ∷ e ∷ f ∷ []) i h =
        record {
          indicator = a;
          start = b;
          end = c;
          quality = d;
          reason = e;
          text = f;
          is = refl;
          long = indicator-long a (b ∷ c ∷ d ∷ e ∷ f ∷ []) 400 i (λ z. omega arith);
          started = h.2.1;
          ended = h.2.2.1;
          marking = record { graded = h.2.2.2.1; reasoned = h.2.2.2.2.1; described = h.2.2.2.2.2.1; bytes = h.2.2.2.2.2.0.0 };
          says = run-says a b c d e f;
        }
    go (a ∷ b ∷ c ∷ d ∷ e ∷ f ∷ g ∷ fs) i h = absurd h.2.2.2.2.2.2
