-- `verdict::refused` meets its contract. Assumes nothing.
use Rattle.verdict.proofs.Saying.{refused-line, refused-whole}
use Rattle.verdict.proofs.refused.Goals as goal

pub returns-then-several : goal.returns-then-several
returns-then-several c = search refused-line

pub returns : goal.returns
returns c = search refused-whole
