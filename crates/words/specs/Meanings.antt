-- What a refusal's number means: 01, Refusal numbers, in words for a person. 02 struck 17 (request 7), which means nothing, mended 12 (request 1), and brought 18
-- to 21 (request 2), 23 to 25 (request 11), and 26 and 27 (request 12); 22 is given by no call yet.
use Rattle.std.specs.Prelude.{ℕ, List, ◌++◌}
use Rattle.ground.specs.Text.{bytes}
use Rattle.words.specs.Lists.{numbered}

-- from 1 on
abbrev pub meanings : List ℕ
meanings =
    bytes "the file is longer than 1,048,576 bytes;"
    ++ bytes "no CR LF ends this record, and no 900 came before it;"
    ++ bytes "a byte outside 0x20 to 0x7E, or a CR or LF that stands alone;"
    ++ bytes "the first field is no indicator, or this record may not come here;"
    ++ bytes "the wrong number of fields;"
    ++ bytes "the field breaks its rule, or begins or ends with a space;"
    ++ bytes "quality, reason and description do not go together;"
    ++ bytes "the date is not later than that of the day before;"
    ++ bytes "the 400 does not go on where the last one ended, or ends too early or too late;"
    ++ bytes "the 400s of a V day end before its last interval;"
    ++ bytes "all intervals of the V day are alike, so it should not be V;"
    ++ bytes "the read time is not within its 300's day, from 00:00:01 to 00:00:00 of the day after;"
    ++ bytes "bytes behind the 900 record;"
    ++ bytes "no such day or channel;"
    ++ bytes "a lent list or the room is too short;"
    ++ bytes "the day is not fit to be written;"
    ++ bytes ";"
    ++ bytes "the store holds this day with an update time that is equal or later;"
    ++ bytes "every slot of the store is used, and the key is new;"
    ++ bytes "the live bytes and the new block exceed the store's room;"
    ++ bytes "the bytes lent are no store, no map or no index of that file;"
    ++ bytes ";"
    ++ bytes "the tenant map is full;"
    ++ bytes "the first date falls, or is no date;"
    ++ bytes "a share above 1000, a bad key, or a share without a key;"
    ++ bytes "the channel is on no output, or the shares of its outputs add up to 0;"
    ++ bytes "the total is above 2,880,000,000,000,000"

unfoldable pub meaning_of : ℕ → List ℕ
meaning_of x = numbered x meanings
