-- What written bytes say.
use Rattle.std.specs.Prelude.{ℕ, ◌+◌, ◌*◌, ◌/◌, ◌%◌, cond, ◌&&◌, List, map, length, drop, Some, None, vec_items, codes, Option, ◌==◌, nat_le, slice_index}
use Rattle.lexer.specs.declared.data.Data.{Data}
use Rattle.lexer.specs.declared.data.Data.TheVariants.{Written, Generated}
use Rattle.std.specs.List.{range_with_len}
use Rattle.lexer.specs.Parts.{parted}
use Rattle.lexer.specs.declared.parts.Stop.TheVariants.{At}
use Rattle.numeral.specs.Numbers.{digit_value, all_digits, number}

-- byte k of a generated text
abbrev pub generated : ℕ → ℕ → ℕ
generated start k = (start + k + 7 * (k / 256)) % 256

-- byte i of a row of hexadecimal digits, two to a byte
abbrev pub pair_at : List ℕ → ℕ → ℕ
pair_at cs i = 16 * digit_value (slice_index cs (2 * i)) + digit_value (slice_index cs (2 * i + 1))

-- the bytes that hexadecimal digits say: an even number of them, and nothing else
abbrev pub hexed : List ℕ → Option (List ℕ)
hexed cs = cond (length cs % 2 == 0 && all_digits 16 cs) (Some (map (pair_at cs) (range_with_len 0 (length cs / 2)))) None

-- the bytes that are handed over
abbrev pub bytes_of : Data → List ℕ
bytes_of (Written v) = vec_items v
bytes_of (Generated count start) = map (generated start) (range_with_len 0 count)

-- what follows four given bytes, if the word begins with them
abbrev pub after_mark : List ℕ → List ℕ → Option (List ℕ)
after_mark m w = cond (nat_le 4 (length w) && (slice_index w 0 == slice_index m 0 && (slice_index w 1 == slice_index m 1 && (slice_index w 2 == slice_index m 2 && slice_index w 3 == slice_index m 3)))) (Some (drop 4 w)) None

-- a generated text of at most 16,777,216 bytes
abbrev pub ruled_by : Option ℕ → Option ℕ → Option (List ℕ)
ruled_by None s = None
ruled_by (Some n) None = None
ruled_by (Some n) (Some s) = cond (nat_le n 16777216) (Some (map (generated s) (range_with_len 0 n))) None

-- a count and a start, parted by a colon
abbrev pub ruled : Option (List ℕ × List ℕ) → Option (List ℕ)
ruled None = None
ruled (Some p) = ruled_by (number p.0) (number p.1)

-- the bytes after hex:, else those of the rule after gen:
abbrev rule_after : Option (List ℕ) → Option (List ℕ)
rule_after None = None
rule_after (Some rule) = ruled (parted (At 58) rule)

abbrev hex_after : Option (List ℕ) → Option (List ℕ) → Option (List ℕ)
hex_after (Some digits) rule = hexed digits
hex_after None rule = rule_after rule

-- the bytes that a word hands over
abbrev pub handed : List ℕ → Option (List ℕ)
handed w = hex_after (after_mark (codes "hex:") w) (after_mark (codes "gen:") w)
