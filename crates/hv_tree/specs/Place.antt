-- Lines and columns.
use Rattle.std.specs.Prelude.{ℕ, ◌+◌, Bool, ◌||◌, nat_lt, nat_le, List, take, length, count_by, ◌==◌}
use Rattle.std.specs.List.{after_last}

abbrev pub is_line_feed : ℕ → Bool
is_line_feed c = c == 10

-- 1 more than the line feeds before the place
abbrev pub line_of : List ℕ → ℕ → ℕ
line_of source start = 1 + count_by is_line_feed (take start source)

-- a byte of UTF-8 that doesn't go on with a character
abbrev pub begins_character : ℕ → Bool
begins_character b = nat_lt b 128 || nat_le 192 b

-- 1 more than the characters that begin between the last of these line feeds and the place
abbrev pub column_of : List ℕ → ℕ → ℕ
column_of source start = 1 + count_by begins_character (after_last is_line_feed (take start source))

-- behind these characters: 1 more than those after the last line feed among them
abbrev pub column_after : List ℕ → ℕ
column_after characters = 1 + length (after_last is_line_feed characters)
