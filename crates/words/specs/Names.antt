-- The names of fields, by the kind of their record and their number from 1: the order of fields in 01, Records.
use Rattle.std.specs.Prelude.{ℕ, ◌-◌, cond, List, ◌++◌, ltb, eqb}
use Rattle.ground.specs.Digits.{dec}
use Rattle.ground.specs.Text.{bytes}
use Rattle.words.specs.Lists.{numbered}

abbrev pub names100 : List ℕ
names100 = bytes "indicator;version;date and time;from;to"

abbrev pub names200 : List ℕ
names200 = bytes "indicator;NMI;configuration;register;suffix;data stream;serial;unit;interval length;next read date"

abbrev pub names250 : List ℕ
names250 =
    bytes "indicator;NMI;configuration;register;suffix;data stream;serial;direction;previous read;previous read time;previous quality;previous reason;"
    ++ bytes "previous description;current read;current read time;current quality;current reason;current description;quantity;unit;next read date;"
    ++ bytes "update time;load time"

abbrev pub names400 : List ℕ
names400 = bytes "indicator;start interval;end interval;quality;reason;description"

abbrev pub names500 : List ℕ
names500 = bytes "indicator;trans code;service order;read time;index read"

abbrev pub names550 : List ℕ
names550 = bytes "indicator;previous trans code;previous service order;current trans code;current service order"

-- the value of an interval from 1
unfoldable pub value_name : ℕ → List ℕ
value_name interval = bytes "value of interval " ++ dec interval

-- a 300 has two fields before its values, and five behind them; so many stand behind this one
unfoldable pub name_in300 : ℕ → ℕ → List ℕ
name_in300 number behind =
    cond (ltb number 3) (numbered number (bytes "indicator;date"))
    (cond (ltb 4 behind) (value_name (number - 2)) (numbered (5 - behind) (bytes "quality;reason;description;update time;load time")))

-- the names of a kind's fields, but those of a 300; a record of another kind has an indicator only
unfoldable pub names_of : ℕ → List ℕ
names_of kind =
    cond (eqb kind 100) names100
    (cond (eqb kind 200) names200
    (cond (eqb kind 250) names250
    (cond (eqb kind 400) names400
    (cond (eqb kind 500) names500
    (cond (eqb kind 550) names550
    (bytes "indicator"))))))

-- the name of a field of a record that has so many
unfoldable pub name_of : ℕ → ℕ → ℕ → List ℕ
name_of kind number count = cond (eqb kind 300) (name_in300 number (count - number)) (numbered number (names_of kind))
