-- The written block as records: they are a block of the grammar, and their bytes are the block's. Assumes nothing.
use Rattle.std.proofs.Common.{Some}
use Prim.Native.Nat.{ℕ, zero, suc, ◌+◌, ◌^◌, ◌≤◌, ◌<◌}
use mathlib.Core.Path.{◌≡◌, refl, sym, ap, ◌∙◌, subst}
use mathlib.Core.Logic.{◌≢◌}
use mathlib.Core.Bool.{true, ◌||◌}
use mathlib.Core.List.{List, [], ◌∷◌, ◌++◌, map, append_assoc, tail-eq_of_cons-eq}
use native.Mathlib.Omega.{arith}
use lib.ListN.{length, replicate, length-append, length-replicate, length-map, replicate-append-replicate}
use lib.Dec.{eqb, leb}
use borrow.Author.Tests.{leb-true}
use Rattle.ground.specs.Lists.{all}
use Rattle.ground.specs.Text.{bytes}
use Rattle.ground.specs.Digits.{padded, dec, is_digit}
use Rattle.ground.specs.Runs.{Run, run, spell, proper}
use Rattle.ground.proofs.Tests.{and-true}
use Rattle.format.specs.Bytes.{field_byte, are_all}
use Rattle.format.specs.Numbers.{number_of, interval_of}
use Rattle.format.specs.Dates.{is_date, is_time}
use Rattle.format.specs.Quality.{Mark}
use Rattle.format.specs.Records.{scale_for, is_kind, indicator_of, kind_in, row_of, obeys, qualities_of, mark_at, mark_in, first_in, last_in}
use Rattle.format.specs.Block.{fit_mark, fit_value, value_text, quality_text, reason_text, load_text, comma, crlf, mark_text, values_text, run_text, cover_text}
use Rattle.format.specs.declared.Rule.{Rule}
use Rattle.format.specs.declared.Rule.TheVariants.{Indicator, Date, Value, Quality, Reason, Description, Time, Load, Interval}
use Rattle.format.proofs.NumberText.{small-back, date-back, time-back, load-back}
use Rattle.format.proofs.ValueText.{value-back}
use Rattle.theorems.specs.Grammar.{Each, Record, join, text, Meets, Together, IsRecord, Covers, Marked}
use Rattle.theorems.proofs.Across.{agrees-together}
use Rattle.theorems.proofs.Ends.{Tidy, tidied, indicator-tidy}
use Rattle.shortest.proofs.Shapes.{top_row, top-says, run_row, run-says}
use Rattle.shortest.proofs.Texts.{Bytes, padded-bytes, dec-bytes, value-bytes, load-bytes, Carried, mark-said, mark-carried}

-- ---- fields that meet their rules

-- fields of bytes that a field may hold, that obey these rules one for one
abbrev Good : ℕ → List Rule → Record → Type 0
Good k [] [] = Unit {0}
Good k [] (f ∷ fs) = ⊥
Good k (u ∷ us) [] = ⊥
Good k (u ∷ us) (f ∷ fs) = Bytes f × (obeys k u f ≡ true) × Good k us fs

good-meets : (k : ℕ) (us : List Rule) (fs : Record) → Each Tidy us → Good k us fs → Meets k us fs
good-meets k [] [] t h = tt
good-meets k [] (f ∷ fs) t h = h
good-meets k (u ∷ us) [] t h = h
good-meets k (u ∷ us) (f ∷ fs) t h = ((h.0, t.0 k f h.1), h.1, good-meets k us fs t.1 h.2)

pub good-record : (k n d : ℕ) (us : List Rule) (f : List ℕ) (fs : Record) → row_of k (scale_for k n d (f ∷ fs)) ≡ Indicator ∷ us → k ≢ 0 → kind_in (f ∷ fs) ≡ k → Bytes f → Good k us fs
    → Each (λ i. Together (mark_at k i (f ∷ fs))) (qualities_of k n) → IsRecord k n d (f ∷ fs)
unfolding obeys
good-record k n d us f fs e z i b g c =
    let w = tidied k (scale_for k n d (f ∷ fs)) in
    let t : Each Tidy us = subst (Each Tidy) (tail-eq_of_cons-eq (sym w.is ∙ e)) w.tidy in
    let m : Meets k (Indicator ∷ us) (f ∷ fs) = ((b, indicator-tidy f fs (λ y. z (sym i ∙ y))), refl, good-meets k us fs t g) in
    record { indicator = i; meets = subst (λ (x : List Rule). Meets k x (f ∷ fs)) (sym e) m; together = c }

-- ---- the 300

abbrev pub three : List ℕ
three = bytes "300"

good-values : (k d : ℕ) (us : List Rule) (fs : Record) (vs : List ℕ) → all (fit_value d) vs ≡ true → Good k us fs
    → Good k (replicate (length vs) (Value d) ++ us) (map value_text vs ++ fs)
unfolding obeys
good-values k d us fs [] h g = g
good-values k d us fs (v ∷ vs) h g =
    let w = and-true (fit_value d v) (all (fit_value d) vs) h in
    (value-bytes v, rw (value-back d v w.0), good-values k d us fs vs w.1 g)

-- with the date t, the update time u, the load time l and the values vs
abbrev pub top_written : ℕ → ℕ → ℕ → List ℕ → List ℕ → List ℕ → List ℕ → Record
top_written t u l vs q s x = top_row three (padded 8 t) (map value_text vs) q s x (padded 14 u) (load_text l)

module _ (t u l : ℕ) (vs : List ℕ) (q s x : List ℕ) (n m : ℕ) (e : length vs ≡ n) where
  pub top-record : is_date t ≡ true → is_time u ≡ true → (eqb l 0 || is_time l) ≡ true → all (fit_value m) vs ≡ true → Carried 300 q s x → IsRecord 300 n m (top_written t u l vs q s x)
  unfolding row_of obeys kind_in indicator_of is_kind number_of are_all is_digit field_byte qualities_of
  top-record d h g v c =
      let five : Good 300 (Quality ∷ Reason ∷ Description ∷ Time ∷ Load ∷ []) (q ∷ s ∷ x ∷ padded 14 u ∷ load_text l ∷ []) = (
        c.quality-bytes,
        c.marking.graded,
        (
          c.reason-bytes,
          c.marking.reasoned,
          (
            c.marking.bytes,
            c.marking.described,
            (
              padded-bytes 14 u,
              rw (time-back u h),
              (load-bytes l, rw (load-back l g), tt),
            ),
          ),
        ),
      ) in
      let w : Good 300 (replicate n (Value m) ++ (Quality ∷ Reason ∷ Description ∷ Time ∷ Load ∷ [])) (map value_text vs ++ (q ∷ s ∷ x ∷ padded 14 u ∷ load_text l ∷ [])) =
      rw (← e) (good-values 300 m (Quality ∷ Reason ∷ Description ∷ Time ∷ Load ∷ []) (q ∷ s ∷ x ∷ padded 14 u ∷ load_text l ∷ []) vs v five) in
      good-record 300 n m (Date ∷ (replicate n (Value m) ++ (Quality ∷ Reason ∷ Description ∷ Time ∷ Load ∷ []))) three (padded 8 t ∷ (map value_text vs ++ (q ∷ s ∷ x ∷ padded 14 u ∷ load_text l ∷ [])))
      refl (λ z. omega arith) refl refl
      (padded-bytes 8 t, rw (date-back t d), w)
      (agrees-together (mark_at 300 (n + 2) (top_written t u l vs q s x)) (rw (top-says three (padded 8 t) (map value_text vs) q s x (padded 14 u) (load_text l) n (length-map vs value_text ∙ e)).mark c.together), tt)

join_more : (f : List ℕ) (xs : Record) (q : List ℕ) (fs : Record) → join (f ∷ (xs ++ (q ∷ fs))) ≡ f ++ 44 ∷ join (xs ++ (q ∷ fs))
unfolding join
join_more f [] q fs = refl
join_more f (x ∷ xs) q fs = refl

join-values : (vs : List ℕ) (q : List ℕ) (fs : Record) → join (map value_text vs ++ (q ∷ fs)) ≡ values_text vs ++ join (q ∷ fs)
unfolding values_text
join-values [] q fs = refl
join-values (v ∷ vs) q fs =
    join_more (value_text v) (map value_text vs) q fs ∙ ap (λ (l : List ℕ). value_text v ++ 44 ∷ l) (join-values vs q fs)
    ∙ sym (append_assoc (value_text v ++ comma) (values_text vs) (join (q ∷ fs)) ∙ append_assoc (value_text v) comma (values_text vs ++ join (q ∷ fs)))

-- the pieces of a 300, bracketed as a record and as the block's text
regroup-300 : (i c d v q s x u l e r : List ℕ) → i ++ (c ++ (d ++ (c ++ (v ++ (q ++ (c ++ (s ++ (c ++ (x ++ (c ++ (u ++ (c ++ l)))))))))))) ++ (e ++ r)
    ≡ (i ++ c) ++ d ++ c ++ v ++ (q ++ c ++ s ++ c ++ x) ++ c ++ u ++ c ++ l ++ e ++ r
regroup-300 i c d v q s x u l e r = simp append_assoc

pub top-text : (t u l : ℕ) (vs : List ℕ) (q s x : List ℕ) (rows : List Record) → text (top_written t u l vs q s x ∷ rows)
    ≡ bytes "300," ++ padded 8 t ++ comma ++ values_text vs ++ (q ++ comma ++ s ++ comma ++ x) ++ comma ++ padded 14 u ++ comma ++ load_text l ++ crlf ++ text rows
unfolding text join
top-text t u l vs q s x rows =
    ap (λ (y : List ℕ). three ++ 44 ∷ y ++ 13 ∷ 10 ∷ text rows)
    (join_more (padded 8 t) (map value_text vs) q (s ∷ x ∷ padded 14 u ∷ load_text l ∷ []) ∙ ap (λ (y : List ℕ). padded 8 t ++ 44 ∷ y) (join-values vs q (s ∷ x ∷ padded 14 u ∷ load_text l ∷ [])))
    ∙ regroup-300 three comma (padded 8 t) (values_text vs) q s x (padded 14 u) (load_text l) crlf (text rows)

-- ---- the 400s

abbrev four : List ℕ
four = bytes "400"

-- a 400 for the intervals behind the first a up to e
abbrev pub run_written : ℕ → ℕ → Mark → Record
run_written a e m = run_row four (dec (a + 1)) (dec e) (quality_text m.flag m.method) (reason_text m.reason) m.text

abbrev pub cover_written : ℕ → List (Run Mark) → List Record
cover_written a [] = []
cover_written a (run k m ∷ c) = run_written a (a + k) m ∷ cover_written (a + k) c

regroup-400 : (i c a b q s x e r : List ℕ) → i ++ (c ++ (a ++ (c ++ (b ++ (c ++ (q ++ (c ++ (s ++ (c ++ x))))))))) ++ (e ++ r)
    ≡ (i ++ c) ++ a ++ c ++ b ++ c ++ (q ++ c ++ s ++ c ++ x) ++ e ++ r
regroup-400 i c a b q s x e r = simp append_assoc

pub cover-text : (a : ℕ) (c : List (Run Mark)) → text (cover_written a c) ≡ cover_text a c
unfolding text join cover_text run_text mark_text
cover-text a [] = refl
cover-text a (run k m ∷ c) =
    regroup-400 four comma (dec (a + 1)) (dec (a + k)) (quality_text m.flag m.method) (reason_text m.reason) m.text crlf (text (cover_written (a + k) c))
    ∙ ap (λ (y : List ℕ). run_text a (a + k) m ++ y) (cover-text (a + k) c)

-- a cover that begins behind the first a intervals, of runs that are not empty, up to an interval of at most four digits, and of marks that are fit
abbrev pub Fitting : ℕ → List (Run Mark) → Type 0
Fitting a [] = Unit {0}
Fitting a (run k m ∷ c) = (1 ≤ k) × (a + k < 10 ^ 4) × (fit_mark m ≡ true) × Fitting (a + k) c

drop-fit : (k : ℕ) (m : Mark) (ms : List Mark) → all fit_mark (replicate k m ++ ms) ≡ true → all fit_mark ms ≡ true
drop-fit zero m ms h = h
drop-fit (suc k) m ms h = drop-fit k m ms (and-true (fit_mark m) (all fit_mark (replicate k m ++ ms)) h).1

pub fitting : (a : ℕ) (c : List (Run Mark)) → proper c ≡ true → all fit_mark (spell c) ≡ true → a + length (spell c) < 10 ^ 4 → Fitting a c
unfolding proper spell
fitting a [] p h b = tt
fitting a (run zero m ∷ c) p h b = absurd (let z : ⊥ = omega (arith, leb-true 1 0 (and-true (leb 1 0) (proper c) p).0) in z)
fitting a (run (suc k) m ∷ c) p h b =
    let l : length (replicate (suc k) m ++ spell c) ≡ suc k + length (spell c) =
    length-append (replicate (suc k) m) (spell c) ∙ ap (λ (i : ℕ). i + length (spell c)) (length-replicate (suc k) m) in (
      omega arith,
      omega arith,
      (and-true (fit_mark m) (all fit_mark (replicate k m ++ spell c)) h).0,
      fitting (a + suc k) c (and-true (leb 1 (suc k)) (proper c) p).1 (drop-fit (suc k) m (spell c) h) (omega arith),
    )

interval-back : (i : ℕ) → i < 10 ^ 4 → interval_of (dec i) ≡ Some i
unfolding interval_of
interval-back i h = small-back 4 i (omega arith) h (omega arith)

module _ (a k : ℕ) (m : Mark) (s : 1 ≤ k) (b : a + k < 10 ^ 4) (h : fit_mark m ≡ true) where
  pub written-first : first_in (run_written a (a + k) m) ≡ a + 1
  unfolding first_in
  written-first = rw (interval-back (a + 1) (omega arith))

  pub written_last : last_in (run_written a (a + k) m) ≡ a + k
  unfolding last_in
  written_last = rw (interval-back (a + k) b)

  pub written-mark : mark_in (run_written a (a + k) m) ≡ m
  written-mark =
      (run-says four (dec (a + 1)) (dec (a + k)) (quality_text m.flag m.method) (reason_text m.reason) m.text).mark ∙ mark-said 400 m refl h

  run-record : IsRecord 400 0 0 (run_written a (a + k) m)
  unfolding row_of obeys kind_in indicator_of is_kind number_of are_all is_digit field_byte qualities_of
  run-record =
      let c = mark-carried 400 m refl h in
      good-record 400 0 0 (Interval ∷ Interval ∷ Quality ∷ Reason ∷ Description ∷ []) four (dec (a + 1) ∷ dec (a + k) ∷ quality_text m.flag m.method ∷ reason_text m.reason ∷ m.text ∷ [])
      refl (λ z. omega arith) refl refl (
        dec-bytes (a + 1),
        rw (interval-back (a + 1) (omega arith)),
        (
          dec-bytes (a + k),
          rw (interval-back (a + k) b),
          (
            c.quality-bytes,
            c.marking.graded,
            (
              c.reason-bytes,
              c.marking.reasoned,
              (c.marking.bytes, c.marking.described, tt),
            ),
          ),
        ),
      )
      (agrees-together (mark_in (run_written a (a + k) m)) (rw (run-says four (dec (a + 1)) (dec (a + k)) (quality_text m.flag m.method) (reason_text m.reason) m.text).mark c.together), tt)

pub cover-records : (a : ℕ) (c : List (Run Mark)) → Fitting a c → Each (IsRecord 400 0 0) (cover_written a c)
cover-records a [] h = tt
cover-records a (run k m ∷ c) h = (run-record a k m h.0 h.1 h.2, cover-records (a + k) c h.3)

pub cover-covers : (a : ℕ) (c : List (Run Mark)) → Fitting a c → Covers (a + length (spell c)) (a + 1) (cover_written a c)
unfolding spell
cover-covers a [] h = omega arith
cover-covers a (run k m ∷ c) h =
    let l : a + length (replicate k m ++ spell c) ≡ a + k + length (spell c) =
    omega (arith, length-append (replicate k m) (spell c), length-replicate k m) in
    let f = written-first a k m h.0 h.1 h.2 in
    let g = written_last a k m h.0 h.1 h.2 in
    let s : 1 ≤ k = h.0 in
    subst (λ (x : ℕ). Covers x (a + 1) (cover_written a (run k m ∷ c))) (sym l) (rw (f, g) (refl, omega arith, omega arith, cover-covers (a + k) c h.3))

-- where every 400 has one mark, so has every interval
pub cover-alike : (a : ℕ) (c : List (Run Mark)) (m : Mark) → Fitting a c → Marked m (cover_written a c) → spell c ≡ replicate (length (spell c)) m
unfolding spell
cover-alike a [] m h w = refl
cover-alike a (run k x ∷ c) m h w =
    let e : x ≡ m = sym (written-mark a k x h.0 h.1 h.2) ∙ w.0 in
    let l : length (replicate k x ++ spell c) ≡ k + length (spell c) = omega (arith, length-append (replicate k x) (spell c), length-replicate k x) in
    rw l (ap (λ (y : Mark). replicate k y ++ spell c) e ∙ ap (λ (y : List Mark). replicate k m ++ y) (cover-alike (a + k) c m h.3 w.1) ∙ replicate-append-replicate k (length (spell c)) m)
