-- Files, and places in them (WebAssembly Core 1.0, section 5.5.15).
use Rattle.std.specs.Prelude.{◌≡◌, ◌<◌, ◌≤◌, ◌⊎◌, ℕ, List, [], ◌++◌, length, take, All}
use Rattle.module_specs.specs.Spelling.{Here}
use Rattle.module_specs.specs.Fronts.{Begins, StatesEnd, after_all}
use Rattle.module_specs.specs.ModuleSpelling.{Section, start, SpellsSection, SpellsSections, magic, version, most_bytes, module_of, declared}

-- each is below 256
abbrev pub AreBytes : List ℕ → Type 0
AreBytes b = All (λ x. x < 256) b

-- bytes, no more of them than a file may have
pub record IsFile (b : List ℕ) : Type 0 where
  pub bytes : AreBytes b
  pub small : length b ≤ most_bytes

-- a place that lies in two files, or at their ends, up to which they have the same bytes
pub record AgreeUpTo (place : ℕ) (b c : List ℕ) : Type 0 where
  pub in_first : place ≤ length b
  pub in_second : place ≤ length c
  pub same : take place b ≡ take place c

-- the header, and sections behind it
pub record IsFront (text : List ℕ) : Type 0 where
  pub sections : List Section
  pub rest : List ℕ
  pub whole : text ≡ magic ++ (version ++ rest)
  pub spelled : SpellsSections start sections rest

-- the place is behind the header or behind a section, and only sections stand between the header and it
abbrev pub IsBehind : List ℕ → ℕ → Type 0
IsBehind b place = (sections : List Section) × Begins b sections place

-- a section stands there behind others, and this place lies in it
pub record IsInSection (b : List ℕ) (place : ℕ) : Type 0 where
  pub sections : List Section
  pub at : ℕ
  pub before : Begins b sections at
  pub section : Section
  pub text : List ℕ
  pub next : ℕ
  pub here : Here b at text next
  pub spelled : SpellsSection (after_all sections start) section text
  pub begun : at < place
  pub unfinished : place < next

-- the place lies in the header, or in a section
abbrev pub IsInside : List ℕ → ℕ → Type 0
IsInside b place = (place < 8) ⊎ IsInSection b place

-- Behind sections that are spelled stands an id and a size that leads past the end of the file, to this end.
pub record IsOverlong (b : List ℕ) (stop : ℕ) : Type 0 where
  pub sections : List Section
  pub at : ℕ
  pub before : Begins b sections at
  pub states : StatesEnd b at stop
  pub past : length b < stop

-- Behind the header, or behind sections that are spelled, something stands at this place, but no section is spelled there.
pub record IsStuckAt (b : List ℕ) (at : ℕ) : Type 0 where
  pub sections : List Section
  pub before : Begins b sections at
  pub more : at < length b
  pub unspelled : (x : Section) (text : List ℕ) (next : ℕ) → Here b at text next
      → SpellsSection (after_all sections start) x text → ⊥

abbrev pub IsStuck : List ℕ → Type 0
IsStuck b = (at : ℕ) × IsStuckAt b at

-- and what stands there is an id and a size, which states this end in the file
pub record IsBroken (b : List ℕ) (stop : ℕ) : Type 0 where
  pub at : ℕ
  pub stuck : IsStuckAt b at
  pub states : StatesEnd b at stop
  pub inside : stop ≤ length b

-- a body for each function that the sections declare
abbrev pub HasBodies : List Section → Type 0
HasBodies sections = length (module_of sections).funcs ≡ length (declared sections [])

-- sections up to the end, without a body for each function
pub record LacksBodies (b : List ℕ) : Type 0 where
  pub sections : List Section
  pub whole : Begins b sections (length b)
  pub lacks : HasBodies sections → ⊥

-- why bytes spell no module, if they aren't too many: no header, a place where no section is spelled, or missing bodies
abbrev pub HasCause : List ℕ → Type 0
HasCause b = (Here b 0 (magic ++ version) 8 → ⊥) ⊎ (IsStuck b ⊎ LacksBodies b)
