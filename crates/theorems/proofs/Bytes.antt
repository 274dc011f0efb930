-- Fields, written out and cut again, are the same; and fields that were cut, written out, are the same. Assumes nothing.
use Prim.Native.Nat.{ℕ}
use mathlib.Core.Path.{◌≡◌, refl, ap, ◌∙◌}
use mathlib.Core.Bool.{true, false, true≢false}
use mathlib.Core.List.{List, [], ◌∷◌, ◌++◌}
use native.Mathlib.Omega.{arith}
use lib.Dec.{eqb}
use borrow.Author.Tests.{eqb-true, ne_eqb, le-leb}
use Rattle.ground.specs.Lists.{all, other}
use Rattle.ground.specs.Digits.{is_digit}
use Rattle.ground.proofs.Tests.{and-true}
use Rattle.ground.proofs.Cases.{by, both}
use Rattle.ground.proofs.Digits.{all_append, all_map, digit-range}
use Rattle.format.specs.Bytes.{plain, field_byte}
use Rattle.format.specs.Cut.{fields}
use Rattle.theorems.specs.Grammar.{Each, join}

-- ---- fields

fields-first : (l : List ℕ) → (f : List ℕ) × (fs : List (List ℕ)) × (fields l ≡ f ∷ fs)
unfolding fields
fields-first [] = ([], [], refl)
fields-first (b ∷ bs) =
    let w = fields-first bs in
    by (other 44 b) (λ e. (b ∷ w.0, w.1, rw (e, w.2))) (λ e. ([], fields bs, rw e))

comma : (b : ℕ) → other 44 b ≡ false → b ≡ 44
comma b e = by (eqb b 44) (λ t. eqb-true b 44 t) (λ t. absurd (let z : true ≡ false = (rw t at e) in true≢false z))

-- the fields of a record, joined, are the record
pub join-fields : (l : List ℕ) → join (fields l) ≡ l
unfolding fields join
join-fields [] = refl
join-fields (b ∷ bs) = go (fields-first bs) (join-fields bs)
  where
    on : (f : List ℕ) (fs : List (List ℕ)) → join ((b ∷ f) ∷ fs) ≡ b ∷ join (f ∷ fs)
    on f [] = refl
    on f (g ∷ fs) = refl

    go : (w : (f : List ℕ) × (fs : List (List ℕ)) × (fields bs ≡ f ∷ fs)) → join (fields bs) ≡ bs → join (fields (b ∷ bs)) ≡ b ∷ bs
    go w ih =
        let i : join (w.0 ∷ w.1) ≡ bs = rw w.2 at ih in
        by (other 44 b)
        (λ e. rw (e, w.2, on w.0 w.1, i))
        (λ e. rw (e, w.2, i, comma b e))

-- fields with no comma, joined, are the record's fields
fields-last : (f : List ℕ) → all (other 44) f ≡ true → fields f ≡ f ∷ []
unfolding fields
fields-last [] h = refl
fields-last (b ∷ f) h =
    let w = and-true (other 44 b) (all (other 44) f) h in
    rw (w.0, fields-last f w.1)

fields-next : (f l : List ℕ) → all (other 44) f ≡ true → fields (f ++ 44 ∷ l) ≡ f ∷ fields l
unfolding fields
fields-next [] l h = refl
fields-next (b ∷ f) l h =
    let w = and-true (other 44 b) (all (other 44) f) h in
    rw (w.0, fields-next f l w.1)

-- the fields are of bytes that a field may have
abbrev pub Bytes : List (List ℕ) → Type 0
Bytes fs = Each (λ f. all field_byte f ≡ true) fs

byte-comma : (b : ℕ) → field_byte b ≡ true → other 44 b ≡ true
unfolding field_byte
byte-comma b h = (and-true (plain b) (other 44 b) h).1

byte-plain : (b : ℕ) → field_byte b ≡ true → plain b ≡ true
unfolding field_byte
byte-plain b h = (and-true (plain b) (other 44 b) h).0

digit-field : (b : ℕ) → is_digit b ≡ true → field_byte b ≡ true
unfolding field_byte
digit-field b h =
    let w = digit-range b h in
    rw (le-leb 32 b (omega (arith, w.0)), le-leb b 126 (omega (arith, w.1)), ne_eqb b 44 (λ e. omega (arith, w.0)))

pub fields_join : (f : List ℕ) (fs : List (List ℕ)) → Bytes (f ∷ fs) → fields (join (f ∷ fs)) ≡ f ∷ fs
unfolding join
fields_join f [] h = fields-last f (all_map field_byte (other 44) byte-comma f h.0)
fields_join f (g ∷ fs) h =
    fields-next f (join (g ∷ fs)) (all_map field_byte (other 44) byte-comma f h.0)
    ∙ ap (λ (x : List (List ℕ)). f ∷ x) (fields_join g fs h.1)

pub plain-join : (f : List ℕ) (fs : List (List ℕ)) → Bytes (f ∷ fs) → all plain (join (f ∷ fs)) ≡ true
unfolding join
plain-join f [] h = all_map field_byte plain byte-plain f h.0
plain-join f (g ∷ fs) h =
    all_append plain f (44 ∷ join (g ∷ fs)) (all_map field_byte plain byte-plain f h.0) (plain-join g fs h.1)

-- digits are bytes that a field may have
pub digits-bytes : (s : List ℕ) → all is_digit s ≡ true → all field_byte s ≡ true
digits-bytes s h = all_map is_digit field_byte digit-field s h

-- the fields of a record of plain bytes are clean
pub fields-bytes : (l : List ℕ) → all plain l ≡ true → Bytes (fields l)
unfolding fields field_byte
fields-bytes [] h = (refl, tt)
fields-bytes (b ∷ bs) h =
    let w = and-true (plain b) (all plain bs) h in
    go w.0 (fields-first bs) (fields-bytes bs w.1)
  where
    go : plain b ≡ true → (w : (f : List ℕ) × (fs : List (List ℕ)) × (fields bs ≡ f ∷ fs)) → Bytes (fields bs) → Bytes (fields (b ∷ bs))
    go p w ih =
        let i : Bytes (w.0 ∷ w.1) = rw w.2 at ih in
        by (other 44 b)
        (λ e. rw (e, w.2) (both (field_byte b) (all field_byte w.0) (both (plain b) (other 44 b) p e) i.0, i.1))
        (λ e. rw e (refl, ih))
