-- What stands before the record that is refused goes on to a file that is in the format, and what stands up to its end does not. Assumes nothing.
use Prim.Native.Nat.{ℕ, ◌+◌, ◌≤◌}
use mathlib.Core.Path.{◌≡◌, sym, ap, ◌∙◌}
use mathlib.Core.Bool.{false}
use mathlib.Core.List.{List, [], ◌∷◌, ◌++◌}
use native.Mathlib.Omega.{arith}
use lib.ListN.{length}
use Rattle.format.specs.Cut.{lines}
use Rattle.format.specs.Order.{is_end, begun}
use Rattle.format.specs.Answers.{accepted, refused}
use Rattle.format.specs.File.{walk_of, check_of}
use Rattle.passing.proofs.Walk.{not-accepted}
use Rattle.theorems.specs.Grammar.{Record, text, InFormatUpTo}
use Rattle.theorems.specs.Places.{place_of, past, state_at}
use Rattle.theorems.specs.Beginnings.{GoesOn, bytes_before}
use Rattle.theorems.proofs.Cuts.{lines_cut}
use Rattle.theorems.proofs.Takes.{Takes, takes-file}
use Rattle.theorems.proofs.Told.{told-file}
use Rattle.theorems.proofs.Reach.{Why, unfinished, faulty, trailing, Refusal, refusal-of, stays}
use Rattle.theorems.proofs.Sane.{sane-at}
use Rattle.theorems.proofs.Closing.{some-comes}

-- ---- bytes behind those before record k

-- records that are accepted from the state before record k on
pub format-there : (file : List ℕ) (x q k i : ℕ) → Refusal file x q k i → (rows : List Record) (v c d : ℕ) → Takes (state_at k file) rows v c d
    → InFormatUpTo (length (bytes_before k file ++ text rows)) (bytes_before k file ++ text rows) v c d
format-there file x q k i w rows v c d t =
    let s : List ℕ = bytes_before k file ++ text rows in
    let a : walk_of begun 0 0 (lines s) ≡ accepted (v ∷ c ∷ d ∷ []) =
    ap (walk_of begun 0 0) (lines_cut k file (text rows) w.has) ∙ w.same (lines (text rows)) ∙ t (place_of k file) k in
    told-file (length s) s v c d (omega arith) a

-- ---- the theorems

module _ (file : List ℕ) (x q k i : ℕ) (e : check_of file ≡ refused x q k i) where
  -- where the check refuses record k, the bytes before it go on to a file that is in the format, the length limit aside
  pub viable : 2 ≤ x → x ≤ 12 → GoesOn (bytes_before k file)
  viable lo hi =
      let w = (refusal-of file x q k i e (λ z. omega arith)).1 in
      let c = some-comes (state_at k file) (sane-at k file w.clear) (unended w.why) in
      let n = c.1 in
      (text (n.first ∷ n.rows), _, n.version, n.channels, n.days, format-there file x q k i w (n.first ∷ n.rows) n.version n.channels n.days n.takes)
    where
      unended : Why (state_at k file) (place_of k file) (past k (lines file)) x q i → is_end (state_at k file).expect ≡ false
      unended (unfinished t a o b d f) = o
      unended (faulty r more o a n b d) = n
      unended (trailing a b d f g) = absurd (let y : ⊥ = omega arith in y)

  -- and with record k they do not
  pub not-viable : 3 ≤ x → x ≤ 12 → GoesOn (bytes_before (k + 1) file) → ⊥
  not-viable lo hi g = not-accepted x q k i _ (sym (stays file x q k i e lo hi g.0) ∙ takes-file _ _ _ _ _ g.5)
