-- 01, Fields: "NMI: 10 letters or digits. Suffix: 2 of these. Data stream: empty or 2 of these. From and to: 1 to 10 bytes, no `#`.
-- Configuration 1 to 240; register 0 to 10; serial 0 to 12; [..] service order 0 to 15 (H for these lengths)."
-- "Description: 0 to 240 bytes. Direction: `I` or `E`. Trans codes: one capital letter (H)." And the 100's `NEM12` or `NEM13`.
use Rattle.std.specs.Prelude.{ℕ, List, Bool, cond, ◌&&◌, ◌||◌, length, eqb, Option, Some, None}
use Rattle.ground.specs.Lists.{all, other, same}
use Rattle.ground.specs.Text.{bytes}
use Rattle.format.specs.Bytes.{is_capital, is_alnum, is_text, are_all}

unfoldable pub is_nmi : List ℕ → Bool
is_nmi s = are_all is_alnum 10 10 s

unfoldable pub is_suffix : List ℕ → Bool
is_suffix s = are_all is_alnum 2 2 s

unfoldable pub is_stream : List ℕ → Bool
is_stream s = eqb (length s) 0 || is_suffix s

-- from and to: no `#`, which is byte 35
unfoldable pub is_party : List ℕ → Bool
is_party s = is_text 1 10 s && all (other 35) s

unfoldable pub is_configuration : List ℕ → Bool
is_configuration s = is_text 1 240 s

unfoldable pub is_register : List ℕ → Bool
is_register s = is_text 0 10 s

unfoldable pub is_serial : List ℕ → Bool
is_serial s = is_text 0 12 s

unfoldable pub is_service_order : List ℕ → Bool
is_service_order s = is_text 0 15 s

unfoldable pub is_description : List ℕ → Bool
is_description s = is_text 0 240 s

unfoldable pub is_direction : List ℕ → Bool
is_direction s = same s (bytes "I") || same s (bytes "E")

unfoldable pub is_trans_code : List ℕ → Bool
is_trans_code s = are_all is_capital 1 1 s

unfoldable pub version_of : List ℕ → Option ℕ
version_of s = cond (same s (bytes "NEM12")) (Some 12) (cond (same s (bytes "NEM13")) (Some 13) None)
