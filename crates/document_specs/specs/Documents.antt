-- What stands at a key of a table, as a TOML document has it.
use Rattle.std.specs.Prelude.{ℕ, ℤ, pos, negsuc, ◌&&◌, ◌||◌, ◌==◌, Bool, true, List, [], ◌∷◌, length, Option, Some, None, option_and_then, is_some, unwrap_or, if◌then◌else◌, nat_le, bytes_eq}
use Rattle.std.specs.List.{list_all}
use Rattle.std.specs.Str.{is_utf8}
use Rattle.toml.specs.Data.{Data, Items, no_items, item, Members, no_members, as_str, as_integer, as_bool, as_array, as_table, get_member}
use Rattle.toml.specs.Parse.{parse_document}

-- The document of these bytes, if they are UTF-8 and their text is a document (TOML 1.1). It is a table.
unfoldable pub document : List ℕ → Option Members
document bytes = if is_utf8 bytes then parse_document bytes else None

-- the value, if it passes
abbrev pub that : {A : Type 0} → (A → Bool) → A → Option A
that passes x = if passes x then Some x else None

-- the text at a key
abbrev pub text : List ℕ → Members → Option (List ℕ)
text key t = option_and_then as_str (get_member key t)

-- the flag at a key
abbrev pub flag : List ℕ → Members → Option Bool
flag key t = option_and_then as_bool (get_member key t)

-- the table at a key
abbrev pub table_at : List ℕ → Members → Option Members
table_at key t = option_and_then as_table (get_member key t)

-- an integer that isn't below 0
abbrev pub natural : ℤ → Option ℕ
natural (pos n) = Some n
natural (negsuc n) = None

-- from low to high, both included
abbrev pub is_within : ℕ → ℕ → ℕ → Bool
is_within low high n = nat_le low n && nat_le n high

-- an integer from low to high
abbrev pub number_of : ℕ → ℕ → Data → Option ℕ
number_of low high d = option_and_then (that (is_within low high)) (option_and_then natural (as_integer d))

-- the integer from low to high at a key
abbrev pub number : ℕ → ℕ → List ℕ → Members → Option ℕ
number low high key t = option_and_then (number_of low high) (get_member key t)

-- what a text stands for that is one of these words
abbrev pub one_of : {A : Type 0} → List (List ℕ × A) → List ℕ → Option A
one_of [] s = None
one_of (word ∷ words) s = if bytes_eq s word.0 then Some word.1 else one_of words s

-- each item of an array is a table
abbrev pub are_tables : Items → Bool
are_tables no_items = true
are_tables (item d ds) = is_some (as_table d) && are_tables ds

-- the tables of such an array
abbrev pub tables_of : Items → List Members
tables_of no_items = []
tables_of (item d ds) = unwrap_or (as_table d) no_members ∷ tables_of ds

-- each item is a table, and there are from low to high many
abbrev pub are_some_tables : ℕ → ℕ → Items → Bool
are_some_tables low high ds = are_tables ds && is_within low high (length (tables_of ds))

-- the tables of an array that has nothing else, from low to high many
abbrev pub some_tables : ℕ → ℕ → Items → Option (List Members)
some_tables low high ds = if are_some_tables low high ds then Some (tables_of ds) else None

abbrev pub tables_in : ℕ → ℕ → Data → Option (List Members)
tables_in low high d = option_and_then (some_tables low high) (as_array d)

-- the tables of the array at a key, from low to high many
abbrev pub tables : ℕ → ℕ → List ℕ → Members → Option (List Members)
tables low high key t = option_and_then (tables_in low high) (get_member key t)

-- what a value gives, and this where there is no value
abbrev pub absent_or : {A : Type 0} → A → (Data → Option A) → Option Data → Option A
absent_or x f None = Some x
absent_or x f (Some d) = f d

-- the tables of the array at a key, so many at most; an array that is absent is an empty one
abbrev pub optional_tables : ℕ → List ℕ → Members → Option (List Members)
optional_tables high key t = absent_or [] (tables_in 0 high) (get_member key t)

-- the item of an array of one
abbrev pub only : Items → Option Data
only no_items = None
only (item d no_items) = Some d
only (item d (item e ds)) = None

-- a digit, a capital or small letter, or an underscore, in ASCII
abbrev pub is_word_byte : ℕ → Bool
is_word_byte b = ((is_within 48 57 b || is_within 65 90 b) || is_within 97 122 b) || (b == 95)

-- 1 to 64 letters, digits and underscores
abbrev pub is_identifier : List ℕ → Bool
is_identifier s = is_within 1 64 (length s) && list_all is_word_byte s

-- the identifier at a key
abbrev pub identifier : List ℕ → Members → Option (List ℕ)
identifier key t = option_and_then (that is_identifier) (text key t)
