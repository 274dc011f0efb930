-- `checking::tour::channel_from` meets its contract. Assumes nothing.
use Rattle.ground.proofs.Tests.{tests}
use Rattle.checking.proofs.tour.channel_from.Goals as goal

pub returns-then-channels-channel : goal.returns-then-channels-channel
returns-then-channels-channel c = search tests

pub returns : goal.returns
returns c = search tests
