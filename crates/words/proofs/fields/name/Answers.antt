-- `words::fields::name` meets its contract. Assumes nothing.
use Rattle.words.proofs.Named.{name-as, name-300}
use Rattle.words.specs.Names.{names_of, name_of}
use Rattle.ground.proofs.Tests.{tests}
use Rattle.words.proofs.fields.name.Goals as goal

pub returns-in-100 : goal.returns-in-100
unfolding name_of names_of
returns-in-100 c = search (name-as 100)

pub returns-in-200 : goal.returns-in-200
unfolding name_of names_of
returns-in-200 c = search (name-as 200)

pub returns-in-250 : goal.returns-in-250
unfolding name_of names_of
returns-in-250 c = search (name-as 250)

pub returns-in-300 : goal.returns-in-300
returns-in-300 c = search name-300

pub returns-in-400 : goal.returns-in-400
unfolding name_of names_of
returns-in-400 c = search (name-as 400)

pub returns-in-500 : goal.returns-in-500
unfolding name_of names_of
returns-in-500 c = search (name-as 500)

pub returns-in-550 : goal.returns-in-550
unfolding name_of names_of
returns-in-550 c = search (name-as 550)

pub returns-in_default : goal.returns-in_default
unfolding name_of names_of
returns-in_default c = search tests
