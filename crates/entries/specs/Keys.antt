-- The tickets of 02: "Key: NMI, suffix, date. A good key has an NMI of 10 letters or digits, a suffix of 2 and a real date (01's rules). Letters compare without
-- case: `key` in a definition is the key with capital letters, and wherever a key is kept in memory its letters are capitals. A kept key with a small letter is
-- no good key."
use Rattle.std.specs.Prelude.{ℕ, List, map, Bool, ◌&&◌, eqb}
use Rattle.ground.specs.Lists.{same}
use Rattle.format.specs.Bytes.{capital}
use Rattle.format.specs.Texts.{is_nmi, is_suffix}
use Rattle.format.specs.Dates.{is_date}

pub record Key : Type 0 where
  pub nmi : List ℕ
  pub suffix : List ℕ
  pub date : ℕ

-- letters as capitals
abbrev pub capitals : List ℕ → List ℕ
capitals s = map capital s

abbrev pub key : List ℕ → List ℕ → ℕ → Key
key nmi suffix date = record { nmi = nmi; suffix = suffix; date = date }

-- the key with capital letters
unfoldable pub capital_key : Key → Key
capital_key k = key (capitals k.nmi) (capitals k.suffix) k.date

unfoldable pub good_key : Key → Bool
good_key k = is_nmi k.nmi && is_suffix k.suffix && is_date k.date

-- without a small letter
unfoldable pub in_capitals : List ℕ → Bool
in_capitals s = same (capitals s) s

-- a good key as it is kept
unfoldable pub kept_key : Key → Bool
kept_key k = good_key k && in_capitals k.nmi && in_capitals k.suffix

unfoldable pub same_key : Key → Key → Bool
same_key x y = same x.nmi y.nmi && same x.suffix y.suffix && eqb x.date y.date
