-- Laws of a grammar of modules, which relates modules to the bytes that spell them.
use Rattle.std.specs.Prelude.{◌≡◌, ◌≤◌, ◌↔◌, ℕ, List, ◌++◌, length}
use Rattle.wasm_types.specs.Modules.{NestedModule}
use Rattle.module_specs.specs.ModuleSpelling.{Custom, start, SpellsSection, most_bytes}
use Rattle.module_laws.specs.Files.{IsFile, IsFront, HasCause}

-- Two modules with one spelling are one.
abbrev pub SpellsOne : (NestedModule → List ℕ → Type 0) → Type 0
SpellsOne Spells = (one two : NestedModule) (b : List ℕ) → Spells one b → Spells two b → one ≡ two

-- A file spells no module exactly where it has one of three causes.
abbrev pub SpellsUnlessCause : (NestedModule → List ℕ → Type 0) → Type 0
SpellsUnlessCause Spells = (b : List ℕ) → IsFile b → ((m : NestedModule) → Spells m b → ⊥) ↔ HasCause b

-- Bytes spell a module exactly where they do with a custom section more, behind the header or behind a section.
abbrev pub IgnoresCustom : (NestedModule → List ℕ → Type 0) → Type 0
IgnoresCustom Spells =
    (m : NestedModule) (front custom rest : List ℕ) → IsFront front → SpellsSection start Custom custom
    → length (front ++ (custom ++ rest)) ≤ most_bytes
    → Spells m (front ++ rest) ↔ Spells m (front ++ (custom ++ rest))
