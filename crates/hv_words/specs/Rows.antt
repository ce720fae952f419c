-- Which rows of the table `clap` reads rightly, as a test that computes.
use Rattle.std.specs.Prelude.{◌==◌, ◌&&◌, ◌^◌, Bool, true, false, ℕ, List, length, map, nat_lt, not, Option, Some, None, find}
use Rattle.std.specs.List.{before_first, list_all}
use Rattle.std.specs.Option.{option_map_or}
use Rattle.std.specs.Str.{bytes_eq}
use Rattle.clap.specs.Lexer.{has_byte}
use Rattle.clap.specs.Faults.{is_simple_and_free}
use Rattle.hv_words.specs.Taken.{Form, Setting, Word, dashed, is_among, option_words}
use Rattle.hv_words.specs.Reading.{app_by}

-- a name that stands behind two hyphens is read as it stands
abbrev pub is_name : Word → Bool
is_name name = nat_lt 0 (length name)
    && (not (has_byte 61 name) && bytes_eq (before_first (λ x. x == 61) name) name)

abbrev pub Names : List Setting → Bool
Names options = list_all (λ o. is_name o.name && nat_lt o.most (2 ^ 64)) options

-- its names are read as they stand, and its numbers have 64 bits
abbrev pub is_named : Form → Bool
is_named f = Names f.options && list_all is_name f.flags

abbrev pub setting_by : List Setting → Word → Option Setting
setting_by options name = find (λ o. bytes_eq o.name name) options

abbrev pub is_same_number : Option ℕ → Option ℕ → Bool
is_same_number None None = true
is_same_number (Some a) (Some b) = a == b
is_same_number a b = false

abbrev pub is_same_setting : Setting → Setting → Bool
is_same_setting p o = p.least == o.least && (p.most == o.most && is_same_number p.fallback o.fallback)

-- the option is the first one of its name, and no flag has its name
abbrev pub is_own : Form → Setting → Bool
is_own f o = option_map_or (λ p. is_same_setting p o) (setting_by f.options o.name) false
    && (not (is_among o.name f.flags) && is_among (dashed o.name) (option_words f))

-- the flag is one of the row, and no option has its name
abbrev pub is_flag : Form → Word → Bool
is_flag f name = not (is_among (dashed name) (option_words f)) && is_among name f.flags

-- no name of the row is that of another of its options or flags
abbrev pub is_apart : Form → Bool
is_apart f = list_all (is_own f) f.options && list_all (is_flag f) f.flags

abbrev pub is_sound : Form → Bool
is_sound f = is_named f && (is_apart f && is_simple_and_free (app_by f))
