-- `calls::blocks::block` meets its contract. Assumes nothing.
use Rattle.calls.proofs.Answered.{block-put, bytes-as}
use borrow.Author.Rules.{rules}
use Rattle.calls.proofs.blocks.block.Goals as goal

pub returns : goal.returns
returns c = record { line = search block-put; bytes = search bytes-as; left = search rules }
