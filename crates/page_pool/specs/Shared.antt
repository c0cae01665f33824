-- Tables of pages that they may share.
use Rattle.std.specs.Prelude.{◌≡◌, ℕ, zero, suc, ◌+◌, ◌<◌, ◌≤◌, List, [], Option, None, Some, length, slice_index_or, slice_set, option_map, if◌then◌else◌, nat_eq, nat_lt}
use Rattle.std.specs.List.{sum_by, count_by, flat_map, All}
use Rattle.std.specs.Coded.{Coded, code_by, coded×, coded_list, coded_option, coded_ℕ}
use Rattle.std.specs.Prelude.{refl}

-- the page names of each table that is there, and the bytes of each page
pub record Tables : Type 0 where
  pub tables : List (Option (List ℕ))
  pub pages : List (List ℕ)

abbrev pub tables_code : Coded Tables
tables_code = code_by (List (Option (List ℕ)) × List (List ℕ))
    (coded× (coded_list (coded_option (coded_list coded_ℕ))) (coded_list (coded_list coded_ℕ))) (λ p. (p.tables, p.pages))
    (λ p. record { tables = p.0; pages = p.1 }) (λ _. refl)

-- how often a table names a page
abbrev pub uses_in : ℕ → Option (List ℕ) → ℕ
uses_in page None = 0
uses_in page (Some names) = count_by (nat_eq page) names

-- how often the tables name a page
abbrev pub uses : List (Option (List ℕ)) → ℕ → ℕ
uses tables page = sum_by (uses_in page) tables

-- the bytes of a page
abbrev pub page_bytes : List (List ℕ) → ℕ → List ℕ
page_bytes pages page = slice_index_or pages page []

-- the joined bytes of pages
abbrev pub joined : List (List ℕ) → List ℕ → List ℕ
joined pages names = flat_map (page_bytes pages) names

abbrev pub joined_all : List (List ℕ) → Option (List ℕ) → Option (List ℕ)
joined_all pages table = option_map (joined pages) table

abbrev pub table_at : List (Option (List ℕ)) → ℕ → Option (List ℕ)
table_at tables t = slice_index_or tables t None

-- what a table reads as, if it is there
abbrev pub bytes_of : Tables → ℕ → Option (List ℕ)
bytes_of p t = joined_all p.pages (table_at p.tables t)

-- how many of the first n pages a table names
abbrev pub named_below : List (Option (List ℕ)) → ℕ → ℕ
named_below tables zero = 0
named_below tables (suc n) = named_below tables n + (if nat_lt 0 (uses tables n) then 1 else 0)

-- how many different pages the tables name
abbrev pub live : Tables → ℕ
live p = named_below p.tables (length p.pages)

abbrev pub IsWithin : ℕ → Option (List ℕ) → Type 0
IsWithin n None = Unit {0}
IsWithin n (Some names) = All (λ page. page < n) names

-- what the fields of a pool are: the counts of owners are right, and each page has its bytes
pub record IsSound (tables : List (Option (List ℕ))) (pages : List (List ℕ)) (owners : List ℕ) : Type 0 where
  pub same : length owners ≡ length pages
  pub counts : (page : ℕ) → uses tables page ≡ slice_index_or owners page 0

-- a table that is there has a page at a place
abbrev pub HasPlace : Option (List ℕ) → ℕ → Type 0
HasPlace None at = ⊥
HasPlace (Some names) at = at < length names

-- both there, with as many pages, or both not
abbrev pub SameShape : Option (List ℕ) → Option (List ℕ) → Type 0
SameShape None None = Unit {0}
SameShape None (Some ys) = ⊥
SameShape (Some xs) None = ⊥
SameShape (Some xs) (Some ys) = length ys ≡ length xs

abbrev pub name_in : Option (List ℕ) → ℕ → ℕ
name_in None at = 0
name_in (Some names) at = slice_index_or names at 0

abbrev pub renamed : Option (List ℕ) → ℕ → ℕ → Option (List ℕ)
renamed None at page = None
renamed (Some names) at page = Some (slice_set names at page)

-- the free pages are different pages without an owner
pub record AreFree (owners free : List ℕ) : Type 0 where
  pub once : (page : ℕ) → count_by (nat_eq page) free ≤ 1
  pub unowned : (page : ℕ) → 1 ≤ count_by (nat_eq page) free → slice_index_or owners page 0 ≡ 0
  pub within : (page : ℕ) → 1 ≤ count_by (nat_eq page) free → page < length owners

-- the name that stands at a place of a table
abbrev pub name_at : Tables → ℕ → ℕ → ℕ
name_at p t k = name_in (table_at p.tables t) k

-- the new list has the pages of the old one, and maybe more
pub record Extends (old new : List (List ℕ)) : Type 0 where
  pub no_shorter : length old ≤ length new
  pub same : (page : ℕ) → page < length old → page_bytes new page ≡ page_bytes old page

-- A place of a table has this page, which it alone names. Each table has the bytes that it had.
pub record Owned (tables : List (Option (List ℕ))) (pages : List (List ℕ)) (tables' : List (Option (List ℕ))) (pages' : List (List ℕ))
    (owners' free' : List ℕ) (table at page : ℕ) : Type 0 where
  pub place : HasPlace (table_at tables' table) at
  pub name : name_in (table_at tables' table) at ≡ page
  pub alone : uses tables' page ≡ 1
  pub sound : IsSound tables' pages' owners'
  pub free : AreFree owners' free'
  pub bytes : (t : ℕ) → joined_all pages' (table_at tables' t) ≡ joined_all pages (table_at tables t)

-- a table reads as before, but for the byte at a place
abbrev pub WritesAt : Option (List ℕ) → ℕ → ℕ → Option (List ℕ) → Type 0
WritesAt None at byte new = ⊥
WritesAt (Some bytes) at byte new = new ≡ Some (slice_set bytes at byte)

-- the byte at a place
abbrev pub ByteAt : Option (List ℕ) → ℕ → ℕ → Type 0
ByteAt None at byte = ⊥
ByteAt (Some bytes) at byte = byte ≡ slice_index_or bytes at 0
