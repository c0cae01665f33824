-- An accepted description: how its parts fit each other.
use Rattle.std.specs.Prelude.{◌≡◌, ℕ, ◌^◌, ◌<◌, ◌≤◌, ◌==◌, true, false, List, [], ◌∷◌, ◌++◌, map, ◌⊎◌}
use Rattle.std.specs.List.{list_any, AllByRecursion}
use Rattle.document_specs.specs.Documents.{is_identifier}
use Rattle.unit_specs.specs.Description.{Terminal, Description}
use Rattle.description_specs.specs.declared.variable.ClockVariable.{ClockVariable}
use Rattle.description_specs.specs.declared.variable.BinaryVariable.{BinaryVariable}
use Rattle.description_specs.specs.declared.variable.Causality.{Causality}
use Rattle.description_specs.specs.declared.variable.Causality.TheVariants.{Input, Output}
use Rattle.description_specs.specs.declared.variable.IntervalVariability.TheVariants.{Triggered}
use Rattle.description_specs.specs.Variables.{is_countdown, is_input}
use Rattle.description_specs.specs.Clocks.{countdowns, countdown_references}
use Rattle.description_specs.specs.Terminals.{stands_in}

-- no two are the same
abbrev pub AreDifferent : List ℕ → Type 0
AreDifferent [] = Unit {0}
AreDifferent (x ∷ xs) = (list_any (λ y. y == x) xs ≡ false) × AreDifferent xs

-- it is one of them
abbrev pub IsAmong : {A : Type 0} → A → List A → Type 0
IsAmong x [] = ⊥
IsAmong x (y ∷ ys) = (y ≡ x) ⊎ IsAmong x ys

abbrev pub of_clocks : List ClockVariable → List ℕ
of_clocks clocks = map (λ c. c.reference) clocks

abbrev pub of_binaries : List BinaryVariable → List ℕ
of_binaries binaries = map (λ b. b.reference) binaries

-- if it counts down, it is an input
abbrev pub TicksIn : ClockVariable → Type 0
TicksIn c = is_countdown c.interval ≡ true → is_input c.causality ≡ true

pub record AreClocks (clocks : List ClockVariable) : Type 0 where
  pub different : AreDifferent (of_clocks clocks)
  pub few : countdowns clocks ≤ 8
  pub inputs : AllByRecursion TicksIn clocks
  pub ranged : AllByRecursion (λ c. c.reference < 2 ^ 32) clocks

-- the clock of a binary is there, is triggered, and is an input or an output as the binary is
pub record HasClock (clocks : List ClockVariable) (b : BinaryVariable) : Type 0 where
  pub clock : ClockVariable
  pub there : IsAmong clock clocks
  pub named : clock.reference ≡ b.clock
  pub triggered : clock.interval ≡ Triggered
  pub alike : clock.causality ≡ b.causality

pub record IsBinaryInRange (b : BinaryVariable) : Type 0 where
  pub reference : b.reference < 2 ^ 32
  pub clock : b.clock < 2 ^ 32
  pub least : 256 ≤ b.max_size
  pub most : b.max_size ≤ 65536

pub record AreBinaries (clocks : List ClockVariable) (binaries : List BinaryVariable) : Type 0 where
  pub different : AreDifferent (of_clocks clocks ++ of_binaries binaries)
  pub clocked : AllByRecursion (HasClock clocks) binaries
  pub ranged : AllByRecursion IsBinaryInRange binaries

-- the data of a terminal: a binary that is there, of this causality, with its clock and its greatest length
pub record IsData (binaries : List BinaryVariable) (c : Causality) (r clock most : ℕ) : Type 0 where
  pub binary : BinaryVariable
  pub there : IsAmong binary binaries
  pub named : binary.reference ≡ r
  pub alike : binary.causality ≡ c
  pub clocked : binary.clock ≡ clock
  pub long : binary.max_size ≡ most

pub record IsTerminal (binaries : List BinaryVariable) (t : Terminal) : Type 0 where
  pub rx : IsData binaries Input t.rx_data t.rx_clock t.rx_max
  pub tx : IsData binaries Output t.tx_data t.tx_clock t.tx_max

-- no variable of the later one stands in the earlier one
pub record SharesNone (earlier later : Terminal) : Type 0 where
  pub rx_data : stands_in later.rx_data earlier ≡ false
  pub rx_clock : stands_in later.rx_clock earlier ≡ false
  pub tx_data : stands_in later.tx_data earlier ≡ false
  pub tx_clock : stands_in later.tx_clock earlier ≡ false

abbrev pub ShareNone : List Terminal → Type 0
ShareNone [] = Unit {0}
ShareNone (t ∷ ts) = AllByRecursion (SharesNone t) ts × ShareNone ts

pub record AreTerminals (binaries : List BinaryVariable) (terminals : List Terminal) : Type 0 where
  pub each_is : AllByRecursion (IsTerminal binaries) terminals
  pub named : AllByRecursion (λ t. is_identifier t.name ≡ true) terminals
  pub apart : ShareNone terminals

-- the parts of an accepted description fit each other
pub record HoldsTogether (d : Description) : Type 0 where
  pub clocks : List ClockVariable
  pub binaries : List BinaryVariable
  pub clocks_fit : AreClocks clocks
  pub binaries_fit : AreBinaries clocks binaries
  pub terminals_fit : AreTerminals binaries d.terminals
  pub countdown : d.countdown ≡ countdown_references clocks

-- the value references of the four variables of each terminal
abbrev pub of_terminals : List Terminal → List ℕ
of_terminals [] = []
of_terminals (t ∷ ts) = t.rx_data ∷ t.rx_clock ∷ t.tx_data ∷ t.tx_clock ∷ of_terminals ts

-- the value references that a description keeps
abbrev pub references_of : Description → List ℕ
references_of d = d.countdown ++ of_terminals d.terminals
