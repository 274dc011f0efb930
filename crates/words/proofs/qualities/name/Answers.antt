-- `words::qualities::name` meets its contract. Assumes nothing.
use Rattle.words.proofs.Named.{known}
use Rattle.words.specs.Qualities.{quality_name}
use Rattle.ground.proofs.Tests.{tests}
use Rattle.words.proofs.qualities.name.Goals as goal

pub returns-in-65 : goal.returns-in-65
unfolding quality_name
returns-in-65 c = search (known quality_name 65)

pub returns-in-69 : goal.returns-in-69
unfolding quality_name
returns-in-69 c = search (known quality_name 69)

pub returns-in-70 : goal.returns-in-70
unfolding quality_name
returns-in-70 c = search (known quality_name 70)

pub returns-in-78 : goal.returns-in-78
unfolding quality_name
returns-in-78 c = search (known quality_name 78)

pub returns-in-83 : goal.returns-in-83
unfolding quality_name
returns-in-83 c = search (known quality_name 83)

pub returns-in_default : goal.returns-in_default
unfolding quality_name
returns-in_default c = search tests
