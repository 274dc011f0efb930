-- A file of a 100, a 200, some bytes and a 900 is accepted with one day exactly when the bytes are a day block behind that 200, and that is the day that a
-- reading finds. Assumes nothing.
use Prim.Native.Nat.{ℕ, ◌≤◌}
use mathlib.Core.Path.{◌≡◌, refl, sym, ap, ◌∙◌, subst}
use mathlib.Core.Logic.{◌↔◌}
use mathlib.Core.Bool.{true, false≢true, ◌&&◌}
use mathlib.Core.List.{List, [], ◌∷◌, ◌++◌, map, append_assoc}
use native.Mathlib.Omega.{arith}
use lib.ListN.{length, take, length-append, length-map}
use lib.Seq.{take-append_seam}
use lib.Dec.{leb}
use borrow.Author.Tests.{leb-true}
use Rattle.ground.specs.Lists.{all}
use Rattle.ground.specs.Digits.{is_digit, decimal}
use Rattle.ground.proofs.Digits.{digit-range}
use Rattle.ground.proofs.Tests.{and-true}
use Rattle.ground.proofs.Cases.{by}
use Rattle.format.specs.Bytes.{are_all}
use Rattle.format.specs.Numbers.{number_of}
use Rattle.format.specs.Cut.{line, lines, fields}
use Rattle.format.specs.Records.{is_kind, indicator_of, kind_in, row_of, version_in, unit_in, decimals_in, intervals_in}
use Rattle.format.specs.Answers.{accepted}
use Rattle.format.specs.File.{check_of}
use Rattle.format.specs.Day.{days_of, Day}
use Rattle.format.proofs.Cut.{bytes_of, bytes-lines}
use Rattle.passing.proofs.Walk.{file-passes}
use Rattle.passing.proofs.Files.{lines-row}
use Rattle.theorems.specs.Grammar.{Each, Record, join, text, IsRecord, Block, IsBlock, Channel, IsChannel, Content, nem12, nem13, IsContent, content_then, channels_in, days_in, InFormat}
use Rattle.theorems.specs.Days.{rows_of, day_in, meant, meanings, ReadsAs, around}
use Rattle.theorems.proofs.Rows.{Fields, record-fields}
use Rattle.theorems.proofs.Takes.{fields-of}
use Rattle.theorems.proofs.Format.{format}
use Rattle.theorems.proofs.Meaning.{meaning, day-count}
use Rattle.theorems.proofs.OneDay.{text-append, block-text}

-- ---- a 900 has one text

three : (f : List ℕ) → are_all is_digit 3 3 f ≡ true → decimal f ≡ 900 → f ≡ 57 ∷ 48 ∷ 48 ∷ []
unfolding are_all
three [] h e = absurd (false≢true h)
three (a ∷ []) h e = absurd (false≢true h)
three (a ∷ b ∷ []) h e = absurd (false≢true h)
three (a ∷ b ∷ c ∷ []) h e =
    let w = and-true (is_digit a) (is_digit b && (is_digit c && true)) h in
    let u = and-true (is_digit b) (is_digit c && true) w.1 in
    let v = and-true (is_digit c) true u.1 in
    let x = digit-range a w.0 in
    let y = digit-range b u.0 in
    let z = digit-range c v.0 in
    let i : a ≡ 57 = omega arith in
    let j : b ≡ 48 = omega arith in
    let k : c ≡ 48 = omega arith in
    rw (i, j, k)
three (a ∷ b ∷ c ∷ d ∷ f) h e =
    let n : ℕ = length (a ∷ b ∷ c ∷ d ∷ f) in
    let w = and-true (leb 3 n && leb n 3) (all is_digit (a ∷ b ∷ c ∷ d ∷ f)) h in
    absurd (let x : n ≤ 3 = leb-true _ _ (and-true (leb 3 n) (leb n 3) w.0).1 in let y : ⊥ = omega arith in y)

indicator-900 : (f : List ℕ) → kind_in (f ∷ []) ≡ 900 → f ≡ 57 ∷ 48 ∷ 48 ∷ []
unfolding kind_in indicator_of number_of
indicator-900 f h =
    by (are_all is_digit 3 3 f)
    (λ t. three f t
    (by (is_kind (decimal f))
    (λ u. let z : decimal f ≡ 900 = (rw (t, u) at h) in z)
    (λ u. absurd (let z : 0 ≡ 900 = (rw (t, u) at h) in let y : ⊥ = omega arith in y))))
    (λ t. absurd (let z : 0 ≡ 900 = (rw t at h) in let y : ⊥ = omega arith in y))

last-text : (l : Record) → IsRecord 900 0 0 l → l ≡ (57 ∷ 48 ∷ 48 ∷ []) ∷ []
unfolding row_of
last-text [] h = absurd h.meets
last-text (f ∷ []) h = ap (λ (x : List ℕ). x ∷ []) (indicator-900 f h.indicator)
last-text (f ∷ g ∷ l) h = absurd h.meets.2

-- ---- what stands behind two records, and before equal bytes

module _ (a b : Record) (h : Fields a) (g : Fields b) where
  two-lines : (s : List ℕ) → lines (text (a ∷ b ∷ []) ++ s) ≡ line (join a) (line (join b) (lines s))
  unfolding text
  two-lines s =
      rw (append_assoc (join a) (13 ∷ 10 ∷ (join b ++ 13 ∷ 10 ∷ [])) s, append_assoc (join b) (13 ∷ 10 ∷ []) s)
      (lines-row (join a) (join b ++ 13 ∷ 10 ∷ s) (fields-of a h).1 ∙ ap (line (join a)) (lines-row (join b) s (fields-of b g).1))

behind-two : (a b c d : Record) (s t : List ℕ) → Fields a → Fields b → Fields c → Fields d → text (a ∷ b ∷ []) ++ s ≡ text (c ∷ d ∷ []) ++ t → (b ≡ d) × (s ≡ t)
behind-two a b c d s t ha hb hc hd e =
    let l : line (join a) (line (join b) (lines s)) ≡ line (join c) (line (join d) (lines t)) = sym (two-lines a b ha hb s) ∙ ap lines e ∙ two-lines c d hc hd t in
    let j : join b ≡ join d = cc in
    let k : lines s ≡ lines t = cc in
    (sym (fields-of b hb).0 ∙ ap fields j ∙ (fields-of d hd).0, sym (bytes-lines s) ∙ ap bytes_of k ∙ bytes-lines t)

cancel : (x y z : List ℕ) → x ++ z ≡ y ++ z → x ≡ y
cancel x y z e =
    let n : length (x ++ z) ≡ length (y ++ z) = ap length e in
    let l : length x ≡ length y = omega (arith, length-append x z, length-append y z) in
    sym (take-append_seam x z) ∙ ap (take (length x)) e ∙ rw l (take-append_seam y z)

-- ---- a file with one day

-- has one channel, and is a NEM12 file
counted : (v : ℕ) (x : Content) → IsContent v x → days_in x ≡ 1 → (v ≡ 12) × (channels_in x ≡ 1)
counted v (nem12 []) h e = absurd (let z : ⊥ = omega arith in z)
counted v (nem12 (c ∷ [])) h e = (h.0, refl)
counted v (nem12 (c ∷ k ∷ cs)) h e = absurd (let z : ⊥ = omega (arith, h.2.0.some, h.2.1.0.some) in z)
counted v (nem13 rs) h e = absurd (let z : ⊥ = omega arith in z)

one-channel : (file xs : List ℕ) → check_of file ≡ accepted xs → length (days_of file) ≡ 1 → InFormat file 12 1 1
one-channel file xs e n =
    let p = file-passes file xs e in
    let v : ℕ = p.end.version in
    let c : ℕ = p.end.channels in
    let d : ℕ = p.end.days in
    let a : check_of file ≡ accepted (v ∷ c ∷ d ∷ []) = e ∙ ap accepted p.answer in
    let h = (format file v c d).0 a in
    let i : d ≡ 1 = sym (day-count file v c d h) ∙ n in
    let w = counted v h.content h.is-content (sym h.days ∙ i) in
    let j : c ≡ 1 = h.channels ∙ w.1 in
    let b : accepted (v ∷ c ∷ d ∷ []) ≡ accepted (12 ∷ 1 ∷ 1 ∷ []) = rw (w.0, j, i) in
    (format file 12 1 1).0 (a ∙ b)

-- ---- the file around a block

module _ (header head last : Record) (h₁ : IsRecord 100 0 0 header) (h₂ : IsRecord 200 0 0 head) (h₉ : IsRecord 900 0 0 last) (s : List ℕ) where
  -- the bytes are a block behind the 200, and the day that it is, is the one that a reading finds
  block_in_lem : InFormat (around header head s last) 12 1 1 → (day : Day) × (ReadsAs head s day × (map meant (days_of (around header head s last)) ≡ day ∷ []))
  block_in_lem g = go g.content g.is-content g.channels g.days g.bytes (meaning (around header head s last) 12 1 1 g)
    where
      one : (c : Channel) (bs : List Block) → IsChannel c → c.blocks ≡ bs → length bs ≡ 1 → around header head s last ≡ text (g.header ∷ content_then (nem12 (c ∷ [])) (g.last ∷ []))
          → map meant (days_of (around header head s last)) ≡ meanings (nem12 (c ∷ []))
          → (day : Day) × (ReadsAs head s day × (map meant (days_of (around header head s last)) ≡ day ∷ []))
      one c [] h e l t m = absurd (let z : ⊥ = omega arith in z)
      one c (b ∷ b' ∷ bs) h e l t m = absurd (let z : ⊥ = omega arith in z)
      one c (b ∷ []) h e l t m =
          let rows : List Record = b.top ∷ (b.runs ++ (b.extra ++ g.last ∷ [])) in
          let t₁ : around header head s last ≡ text (g.header ∷ c.head ∷ []) ++ text rows = (rw e at t) ∙ text-append (g.header ∷ c.head ∷ []) rows in
          let w = behind-two header head g.header c.head (s ++ text (last ∷ [])) (text rows)
          (record-fields 100 0 0 header h₁) (record-fields 200 0 0 head h₂) (record-fields 100 0 0 g.header g.is-header) (record-fields 200 0 0 c.head h.head) t₁ in
          let same : g.last ≡ last = last-text g.last g.is_last ∙ sym (last-text last h₉) in
          let u : s ++ text (last ∷ []) ≡ text (rows_of b) ++ text (last ∷ []) = w.1 ∙ block-text b (g.last ∷ []) ∙ rw same in
          let k : Each (IsBlock (intervals_in c.head) (decimals_in c.head)) (b ∷ []) = rw e at h.blocks in
          let f : map meant (days_of (around header head s last)) ≡ day_in (intervals_in c.head) (unit_in c.head) b ∷ [] = rw e at m in (
            day_in (intervals_in head) (unit_in head) b,
            (
              record { is-head = h₂; block = b; good = rw w.0 k.0; bytes = cancel s (text (rows_of b)) (text (last ∷ [])) u; is = refl },
              f ∙ ap (λ (r : Record). day_in (intervals_in r) (unit_in r) b ∷ []) (sym w.0),
            ),
          )

      go : (x : Content) → IsContent 12 x → 1 ≡ channels_in x → 1 ≡ days_in x → around header head s last ≡ text (g.header ∷ content_then x (g.last ∷ []))
          → map meant (days_of (around header head s last)) ≡ meanings x
          → (day : Day) × (ReadsAs head s day × (map meant (days_of (around header head s last)) ≡ day ∷ []))
      go (nem12 []) h c d t m = absurd (let z : ⊥ = omega arith in z)
      go (nem12 (x ∷ [])) h c d t m = one x x.blocks h.2.0 refl (omega arith) t m
      go (nem12 (x ∷ y ∷ cs)) h c d t m = absurd (let z : ⊥ = omega arith in z)
      go (nem13 rs) h c d t m = absurd (let z : ⊥ = omega arith in z)

  -- where it is accepted, and one day is found in it, the bytes are, by the grammar, that day
  pub block-found : (xs : List ℕ) → check_of (around header head s last) ≡ accepted xs → (day : Day) → map meant (days_of (around header head s last)) ≡ day ∷ [] → ReadsAs head s day
  block-found xs e day f =
      let n : length (days_of (around header head s last)) ≡ 1 = sym (length-map (days_of (around header head s last)) meant) ∙ ap length f in
      let w = block_in_lem (one-channel (around header head s last) xs e n) in
      let l : w.0 ∷ [] ≡ day ∷ [] = sym w.1.1 ∙ f in
      let d : w.0 ≡ day = cc in
      subst (ReadsAs head s) d w.1.0

  module _ (v : version_in header ≡ 12) where
    block_out : length (around header head s last) ≤ 1048576 → (day : Day) → ReadsAs head s day → InFormat (around header head s last) 12 1 1
    block_out l day r =
        let b = r.block in
        let rows : List Record = b.top ∷ (b.runs ++ (b.extra ++ last ∷ [])) in
        record {
          header = header;
          content = nem12 (record { head = head; blocks = b ∷ [] } ∷ []);
          last = last;
          is-header = h₁;
          is-content = (refl, omega arith, (record { head = h₂; some = omega arith; blocks = (r.good, tt); rising = tt }, tt));
          is_last = h₉;
          bytes = ap (λ (x : List ℕ). text (header ∷ head ∷ []) ++ (x ++ text (last ∷ []))) r.bytes
              ∙ rw (← block-text b (last ∷ [])) (sym (text-append (header ∷ head ∷ []) rows));
          short = l;
          version = sym v;
          channels = refl;
          days = refl;
        }

    -- accepted as a block behind a 200 exactly when the bytes are, by the grammar, a day
    pub block-accepted : (check_of (around header head s last) ≡ accepted (12 ∷ 1 ∷ 1 ∷ [])) ↔ ((length (around header head s last) ≤ 1048576) × ((day : Day) × ReadsAs head s day))
    block-accepted = (
      λ e. (let g = (format (around header head s last) 12 1 1).0 e in let w = block_in_lem g in (g.short, (w.0, w.1.0))),
      λ w. (format (around header head s last) 12 1 1).1 (block_out w.0 w.1.0 w.1.1),
    )
