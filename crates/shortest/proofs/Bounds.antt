-- How many bytes the written block has at most. Assumes nothing.
use Prim.Native.Nat.{ℕ, ◌+◌, ◌*◌, ◌≤◌, ◌<◌}
use mathlib.Core.Path.{◌≡◌, ap, ◌∙◌}
use mathlib.Core.Bool.{true, not, ◌&&◌}
use mathlib.Core.List.{List, [], ◌∷◌, ◌++◌}
use native.Mathlib.Omega.{arith}
use lib.ListN.{length, replicate, length-append, length-replicate}
use lib.Dec.{eqb, leb}
use borrow.Author.Tests.{leb-true, ltb-true}
use Rattle.ground.specs.Runs.{Run, run, spell}
use Rattle.ground.proofs.Tests.{and-true}
use Rattle.ground.proofs.Cases.{by}
use Rattle.ground.proofs.Digits.{length-padded, dec-most}
use Rattle.format.specs.Bytes.{end_space, is_text}
use Rattle.format.specs.Texts.{is_description}
use Rattle.format.specs.Numbers.{no_reason}
use Rattle.format.specs.Units.{decimals_of}
use Rattle.format.specs.Quality.{no_method, Mark}
use Rattle.format.specs.Day.{Day}
use Rattle.format.specs.Block.{fit_reason, fit_mark, quality_text, reason_text, load_text, mark_text, run_text, cover_text, runs_in, block_of}
use Rattle.format.proofs.ValueText.{values-most}
use Rattle.format.proofs.MarkText.{length-mark}
use Rattle.format.proofs.CoverText.{length_run, runs-spell}
use Rattle.shortest.specs.Writer.{most_bytes}
use Rattle.shortest.proofs.Least.{length-block, runs-least}
use Rattle.shortest.proofs.Texts.{fit_parts}
use Rattle.shortest.proofs.Written.{Fitting}
use Rattle.shortest.proofs.Back.{Whole, parts, runs-fitting}

-- ---- single fields

quality-most : (q m : ℕ) → length (quality_text q m) ≤ 3
unfolding quality_text
quality-most q m = by (eqb m no_method) (λ e. rw e (omega arith)) (λ e. rw e (omega (arith, length-padded 2 m)))

reason-most : (r : ℕ) → fit_reason r ≡ true → length (reason_text r) ≤ 3
unfolding fit_reason reason_text
reason-most r h =
    by (eqb r no_reason)
    (λ e. rw e (omega arith))
    (λ e. rw e (dec-most r 3 (omega arith) (omega (arith, ltb-true r 1000 (rw e at h)))))

description-most : (s : List ℕ) → is_description s ≡ true → length s ≤ 240
unfolding is_description is_text
description-most s h =
    let a = and-true (leb 0 (length s) && leb (length s) 240) (not (end_space s)) h in
    leb-true (length s) 240 (and-true (leb 0 (length s)) (leb (length s) 240) a.0).1

load-most : (t : ℕ) → length (load_text t) ≤ 14
unfolding load_text
load-most t = by (eqb t 0) (λ e. rw e (omega arith)) (λ e. rw e (omega (arith, length-padded 14 t)))

-- ---- the 400s

mark-most : (m : Mark) → fit_mark m ≡ true → length (mark_text m) ≤ 248
mark-most m h =
    let f = fit_parts m h in
    omega (arith, length-mark m, quality-most m.flag m.method, reason-most m.reason f.reason, description-most m.text f.described)

run-most : (a e : ℕ) (m : Mark) → a < e → e < 1000 → fit_mark m ≡ true → length (run_text a e m) ≤ 262
run-most a e m l b h =
    omega (arith, length_run a e m, dec-most (a + 1) 3 (omega arith) (omega arith), dec-most e 3 (omega arith) (omega arith), mark-most m h)

cover-most : (a : ℕ) (c : List (Run Mark)) → Fitting a c → a + length (spell c) < 1000 → length (cover_text a c) ≤ 262 * length (spell c)
unfolding cover_text spell
cover-most a [] h b = omega arith
cover-most a (run k m ∷ c) h b =
    let l : length (replicate k m ++ spell c) ≡ k + length (spell c) =
    length-append (replicate k m) (spell c) ∙ ap (λ (i : ℕ). i + length (spell c)) (length-replicate k m) in
    let s : 1 ≤ k = h.0 in
    omega (
      arith,
      length-append (run_text a (a + k) m) (cover_text (a + k) c),
      run-most a (a + k) m (omega arith) (omega arith) h.2,
      cover-most (a + k) c h.3 (omega arith),
    )

-- ---- the block

pub block-most : (d : Day) → Whole d → d.n ≤ 288 → length (block_of d) ≤ most_bytes d.n
block-most d w h =
    let c : List (Run Mark) = runs_in d.marks in
    let l : length (spell c) ≡ d.n = ap length (runs-spell d.marks) ∙ w.marks in
    omega (
      arith,
      length-block d,
      values-most (decimals_of d.unit) d.values (parts d w.fit).values,
      w.values,
      load-most d.load,
      runs-least d.marks,
      cover-most 0 c (runs-fitting d w) (omega arith),
    )
