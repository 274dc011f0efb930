-- The theorems about a tenant map. Assumes nothing.
use Prim.Native.Nat.{ℕ, ◌+◌, ◌-◌, ◌≤◌, ◌<◌}
use mathlib.Core.Path.{◌≡◌, refl, ap, ap₂, ◌∙◌}
use mathlib.Core.Bool.{true}
use mathlib.Core.List.{List, [], ◌∷◌}
use native.Mathlib.Omega.{arith}
use borrow.Author.Tests.{lt-leb, le-leb, leb-true, lt-ltb, le-ltb}
use lib.ListN.{length}
use lib.Seq.{sets, length-sets}
use lib.Dec.{leb}
use Rattle.ground.specs.Lists.{all, from}
use Rattle.ground.proofs.Tests.{and-true}
use Rattle.ground.proofs.Cases.{by, split}
use Rattle.format.specs.Answers.{accepted, refusal}
use Rattle.entries.specs.Little.{in_bytes}
use Rattle.entries.specs.Left.{Left}
use Rattle.little.proofs.Numbers.{number-back}
use Rattle.tenants.specs.Outputs.{fit_output, outputs_given}
use Rattle.tenants.specs.Versions.{Version, version, count_in, versions_in, may_follow, are_versions, is_map, latest, version_on}
use Rattle.tenants.specs.Calls.{make_of, with_version, append_of, enough, kept_given, add_of, is_number, outputs_of, back_of, fill_of, ask_of, on_of}
use Rattle.versions.proofs.Pieces.{count-versions}
use Rattle.versions.proofs.Maps.{mapping}
use Rattle.history.specs.Plain.{Call, add, back, on, Seen, said, Turn, append_plain, add_plain, back_plain, plain_turn, map_step, seen_by_map, seen_by_list}
use Rattle.history.specs.Stays.{Added, Highest}
use Rattle.history.proofs.Fits.{Fits, follows-dated, given-fits, held_fits}
use Rattle.history.proofs.Adds.{with-bytes, with-versions, with-map}
use Rattle.history.proofs.Dates.{answered, outputs-still, outputs-last, ask-still}

not-accepted : {P : Type 0} (x : ℕ) (xs : List ℕ) → refusal x ≡ accepted xs → P
not-accepted x xs e = let z : ◌≡◌ {A = ℕ} 0 1 = cc in absurd (let y : ⊥ = omega arith in y)

-- ---- one version more

-- a version was added, under the next number
pub record Adds (m m' : List ℕ) (v : Version) (xs : List ℕ) : Type 0 where
  pub number : xs ≡ (count_in m + 1) ∷ []
  pub added : Added m m' v

with-version : (m : List ℕ) (v : Version) → is_map m ≡ true → count_in m < 32 → may_follow (latest (versions_in m)) v.first ≡ true → Fits v → Added m (with_version m v) v
unfolding on_of
with-version m v e few d f =
    let w = mapping m e in
    let k = with-map m v w few f d in
    let s = with-versions m v w few f in
    record {
      map = k;
      versions = s;
      bytes = with-bytes m v w few f;
      answers = λ date h keys shares. rw (e, k, s) (ask-still (versions_in m) v date keys shares h);
    }

appended : (m : List ℕ) (v : Version) (xs : List ℕ) → is_map m ≡ true → (may_follow (latest (versions_in m)) v.first ≡ true → Fits v) → (append_of m v).answer ≡ accepted xs
    → Adds m (append_of m v).memory v xs
unfolding append_of
appended m v xs e f a =
    by (may_follow (latest (versions_in m)) v.first)
    (λ d. split 32 (count_in m)
    (λ l. not-accepted 23 xs (rw (d, le-ltb (count_in m) 32 l) at a))
    (λ l.
    let n : accepted ((count_in m + 1) ∷ []) ≡ accepted xs = (rw (d, lt-ltb (count_in m) 32 l) at a) in
    let q : xs ≡ (count_in m + 1) ∷ [] = cc in
    rw (d, lt-ltb (count_in m) 32 l) (record { number = q; added = with-version m v e l d (f d) })))
    (λ d. not-accepted 24 xs (rw d at a))

-- Adding alters no older version: neither its bytes nor what it answers.
pub adding : (m : List ℕ) (first : ℕ) (keys shares xs : List ℕ) → (add_of m first keys shares).answer ≡ accepted xs
    → Adds m (add_of m first keys shares).memory (version first (kept_given keys shares)) xs
unfolding add_of
adding m first keys shares xs a =
    by (is_map m)
    (λ e. by (enough keys shares)
    (λ s. by (all fit_output (outputs_given 128 keys shares))
    (λ f.
    rw (e, s, f)
    (appended m (version first (kept_given keys shares)) xs e (λ d. given-fits first keys shares (follows-dated (latest (versions_in m)) first d) f) (rw (e, s, f) at a)))
    (λ f. not-accepted 25 xs (rw (e, s, f) at a)))
    (λ s. not-accepted 15 xs (rw (e, s) at a)))
    (λ e. not-accepted 21 xs (rw e at a))

number_is : (m : List ℕ) (k : ℕ) → is_number (versions_in m) k ≡ true → (1 ≤ k) × (k ≤ count_in m)
unfolding is_number
number_is m k e =
    let g = and-true (leb 1 k) (leb k (length (versions_in m))) e in
    (leb-true 1 k g.0, omega (arith, leb-true k (length (versions_in m)) g.1, count-versions m))

-- Going back to version k adds a version, too,
pub going-back : (m : List ℕ) (k first : ℕ) (xs : List ℕ) → (back_of m k first).answer ≡ accepted xs
    → Adds m (back_of m k first).memory (version first (outputs_of (versions_in m) k)) xs
unfolding back_of
going-back m k first xs a =
    by (is_map m)
    (λ e. by (is_number (versions_in m) k)
    (λ n.
    let r = number_is m k n in
    rw (e, n)
    (appended m (version first (outputs_of (versions_in m) k)) xs e (λ d. held_fits m k first (mapping m e) r.0 r.1 (follows-dated (latest (versions_in m)) first d)) (rw (e, n) at a)))
    (λ n. not-accepted 14 xs (rw (e, n) at a)))
    (λ e. not-accepted 21 xs (rw e at a))

numbered : (m : List ℕ) (k first : ℕ) (xs : List ℕ) → (back_of m k first).answer ≡ accepted xs → is_number (versions_in m) k ≡ true
unfolding back_of
numbered m k first xs a =
    by (is_number (versions_in m) k)
    (λ n. n)
    (λ n. by (is_map m) (λ e. not-accepted 14 xs (rw (e, n) at a)) (λ e. not-accepted 21 xs (rw e at a)))

-- which equals version k: in the memory that is left the new version and version k have the same entries, those that k had before.
pub equal-version : (m : List ℕ) (k first : ℕ) (xs : List ℕ) → (back_of m k first).answer ≡ accepted xs
    → (outputs_of (versions_in (back_of m k first).memory) (count_in m + 1) ≡ outputs_of (versions_in m) k)
    × (outputs_of (versions_in (back_of m k first).memory) k ≡ outputs_of (versions_in m) k)
equal-version m k first xs a =
    let v : Version = version first (outputs_of (versions_in m) k) in
    let s = (going-back m k first xs a).added.versions in
    let r = number_is m k (numbered m k first xs a) in
    let z : count_in m + 1 ≡ length (versions_in m) + 1 = omega (arith, count-versions m) in
    (rw (s, z) (outputs-last (versions_in m) v), rw s (outputs-still (versions_in m) v k r.0 (omega (arith, r.1, count-versions m))))

-- ---- a date

-- A date is answered by the highest version whose first date is not later, with that version's entries.
pub asking : (m : List ℕ) (date : ℕ) (keys shares : List ℕ) (k : ℕ) → (on_of m date keys shares).answer ≡ accepted (k ∷ [])
    → Highest (versions_in m) date k × (on_of m date keys shares ≡ fill_of (versions_in m) k keys shares)
unfolding on_of ask_of fill_of
asking m date keys shares k a =
    by (is_map m)
    (λ e. split 1 (version_on (versions_in m) date)
    (λ l. by (enough keys shares)
    (λ s.
    let b : accepted (version_on (versions_in m) date ∷ []) ≡ accepted (k ∷ []) = (rw (e, le-leb 1 (version_on (versions_in m) date) l, s) at a) in
    let q : version_on (versions_in m) date ≡ k = cc in
    ((answered (versions_in m) date k q (omega arith)).1, rw (e, le-leb 1 (version_on (versions_in m) date) l, s, q)))
    (λ s. not-accepted 15 (k ∷ []) (rw (e, le-leb 1 (version_on (versions_in m) date) l, s) at a)))
    (λ l. not-accepted 14 (k ∷ []) (rw (e, lt-leb 1 (version_on (versions_in m) date) l) at a)))
    (λ e. not-accepted 21 (k ∷ []) (rw e at a))

-- ---- a plain list

pub made-map : (m : List ℕ) (xs : List ℕ) → (make_of m).answer ≡ accepted xs → (is_map (make_of m).memory ≡ true) × (versions_in (make_of m).memory ≡ [])
unfolding make_of is_map versions_in from are_versions
made-map m xs a =
    split 57476 (length m)
    (λ l.
    let c : count_in (sets m 0 (in_bytes 4 0)) ≡ 0 = number-back m 0 4 0 (omega arith) (omega arith) in
    let n : 57476 ≤ length (sets m 0 (in_bytes 4 0)) = omega (arith, length-sets m 0 (in_bytes 4 0)) in
    rw (le-leb 57476 (length m) l) (rw (le-leb 57476 (length (sets m 0 (in_bytes 4 0))) n, c) refl, rw c refl))
    (λ l. not-accepted 15 xs (rw (lt-leb 57476 (length m) l) at a))

-- a call on memory and on the list of its versions
record Same (c : Call) (m : List ℕ) : Type 0 where
  pub seen : (map_step c m).seen ≡ (plain_turn c (versions_in m)).seen
  pub map : is_map (map_step c m).memory ≡ true
  pub versions : versions_in (map_step c m).memory ≡ (plain_turn c (versions_in m)).versions

-- what adding a version says, on both
record Alike (l : Left) (t : Turn) : Type 0 where
  pub seen : said l.answer ≡ t.seen
  pub map : is_map l.memory ≡ true
  pub versions : versions_in l.memory ≡ t.versions

alike-append : (m : List ℕ) (v : Version) → is_map m ≡ true → (may_follow (latest (versions_in m)) v.first ≡ true → Fits v) → Alike (append_of m v) (append_plain v (versions_in m))
unfolding append_of append_plain
alike-append m v e f =
    let n : length (versions_in m) ≡ count_in m = count-versions m in
    by (may_follow (latest (versions_in m)) v.first)
    (λ d. split 32 (count_in m)
    (λ l. rw (n, d, le-ltb (count_in m) 32 l) (record { seen = refl; map = e; versions = refl }))
    (λ l.
    let a = with-version m v e l d (f d) in
    rw (n, d, lt-ltb (count_in m) 32 l) (record { seen = refl; map = a.map; versions = a.versions })))
    (λ d. rw d (record { seen = refl; map = e; versions = refl }))

alike-add : (m : List ℕ) (first : ℕ) (keys shares : List ℕ) → is_map m ≡ true → Alike (add_of m first keys shares) (add_plain first keys shares (versions_in m))
unfolding add_of add_plain
alike-add m first keys shares e =
    by (enough keys shares)
    (λ s. by (all fit_output (outputs_given 128 keys shares))
    (λ f. rw (e, s, f) (alike-append m (version first (kept_given keys shares)) e (λ d. given-fits first keys shares (follows-dated (latest (versions_in m)) first d) f)))
    (λ f. rw (e, s, f) (record { seen = refl; map = e; versions = refl })))
    (λ s. rw (e, s) (record { seen = refl; map = e; versions = refl }))

alike-back : (m : List ℕ) (k first : ℕ) → is_map m ≡ true → Alike (back_of m k first) (back_plain k first (versions_in m))
unfolding back_of back_plain
alike-back m k first e =
    by (is_number (versions_in m) k)
    (λ n.
    let b = number_is m k n in
    rw (e, n)
    (alike-append m (version first (outputs_of (versions_in m) k)) e (λ d. held_fits m k first (mapping m e) b.0 b.1 (follows-dated (latest (versions_in m)) first d))))
    (λ n. rw (e, n) (record { seen = refl; map = e; versions = refl }))

same-call : (c : Call) (m : List ℕ) → is_map m ≡ true → Same c m
unfolding map_step plain_turn on_of
same-call (add first keys shares) m e = let r = alike-add m first keys shares e in record { seen = r.seen; map = r.map; versions = r.versions }
same-call (back k first) m e = let r = alike-back m k first e in record { seen = r.seen; map = r.map; versions = r.versions }
same-call (on date keys shares) m e = record { seen = rw e; map = e; versions = refl }

-- from any map on
pub any-map : (cs : List Call) (m : List ℕ) → is_map m ≡ true → seen_by_map cs m ≡ seen_by_list cs (versions_in m)
unfolding seen_by_map seen_by_list
any-map [] m e = refl
any-map (c ∷ cs) m e =
    let s = same-call c m e in
    ap₂ (λ (x : Seen) (xs : List Seen). x ∷ xs) s.seen (any-map cs (map_step c m).memory s.map ∙ ap (seen_by_list cs) s.versions)

-- Any sequence of calls, from `make_map` on, answers as a plain list of versions does.
pub plain-list : (m xs : List ℕ) → (make_of m).answer ≡ accepted xs → (cs : List Call) → seen_by_map cs (make_of m).memory ≡ seen_by_list cs []
plain-list m xs a cs = let w = made-map m xs a in any-map cs (make_of m).memory w.0 ∙ ap (seen_by_list cs) w.1
