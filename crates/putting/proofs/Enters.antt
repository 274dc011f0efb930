-- The block written and then the slot and the header: a day put. Assumes nothing.
use Prim.Native.Nat.{ℕ}
use mathlib.Core.Path.{◌≡◌, ◌∙◌}
use mathlib.Core.List.{List, [], ◌∷◌}
use lib.ListN.{length}
use Rattle.format.specs.Answers.{accepted}
use Rattle.format.specs.Block.{Given}
use Rattle.entries.specs.Keys.{Key}
use Rattle.store.specs.Used.{taken, held}
use Rattle.entries.specs.Left.{Left, left}
use Rattle.store.specs.Calls.{entry_for, put_into}
use Rattle.store.specs.declared.Header.{Header}
use Rattle.entering.specs.Enters.{entered_of}
use Rattle.putting.specs.Steps.{block_given, Added}

pub put-so : (m : List ℕ) (h : Header) (map s : ℕ) (x : Key) (g : Given) {q n : ℕ} {mid : List ℕ} {r : Left} → Added m h map (block_given g) q mid → n ≡ length (block_given g)
    → r ≡ entered_of mid h map s x g.head q n → r ≡ left (accepted (held (taken map s) ∷ [])) (put_into m h map s x g (block_given g))
unfolding entered_of put_into entry_for
put-so m h map s x g a en er = er ∙ rw (a.memory, a.bytes, en)
