-- The numbers and names of an accepted description.
use Rattle.std.proofs.Common.{◌≡◌, ℕ, ◌^◌, ◌<◌, ◌≤◌, Bool, true, false, nat_le, List, [], ◌∷◌, length, Ok, ◌∙◌, subst, arith, codes, cond, inl, inr}
use Rattle.std.specs.Prelude.{map, filter}
use Rattle.std.specs.List.{AllByRecursion}
use Rattle.std.proofs.lemmas.List.{length-map}
use Rattle.std.proofs.lemmas.List.Sums.{length-filter}
use Rattle.toml.specs.Data.{Members}
use Rattle.document_specs.specs.Checks.{each, needs_that}
use Rattle.document_specs.specs.Documents.{text, flag, table_at, tables, identifier, is_identifier, document}
use Rattle.unit_specs.specs.Description.{Description, Terminal}
use Rattle.description_specs.specs.declared.variable.Causality.{Causality}
use Rattle.description_specs.specs.declared.variable.ClockVariable.{ClockVariable}
use Rattle.description_specs.specs.declared.variable.BinaryVariable.{BinaryVariable}
use Rattle.description_specs.specs.declared.field.Field.TheVariants as field
use Rattle.description_specs.specs.Variables.{refusal, is_countdown}
use Rattle.description_specs.specs.Clocks.{clocks_of, countdown_references}
use Rattle.description_specs.specs.Binaries.{binaries_of}
use Rattle.description_specs.specs.Terminals.{terminals_of, terminal_of}
use Rattle.description_specs.specs.Descriptions.{description_of, description_in, head_of, version, most_bytes}
use Rattle.description_laws.specs.Fit.{IsAmong, IsData, IsTerminal, IsBinaryInRange}
use Rattle.description_laws.specs.Ranges.{IsReference, IsMaxSize, IsTerminalInRange, IsInRange}
use Rattle.description_laws.proofs.Steps.{needs_ok, that_ok, bind_ok, tables_ok, each_length}
use Rattle.description_laws.proofs.AcceptedTerminals.{description_fits}

pub identified : (t : Members) (name : List ℕ) → head_of t ≡ Ok name → is_identifier name ≡ true
unfolding head_of
identified t name h =
    let fmi = needs_ok (refusal field.FmiVersion 0) (version (codes "fmiVersion") t) _ name h in
    let model = needs_ok (refusal field.ModelName 0) (text (codes "modelName") t) _ name fmi.2 in
    let token = needs_ok (refusal field.InstantiationToken 0) (text (codes "instantiationToken") t) _ name model.2 in
    let unit = needs_ok (refusal field.CoSimulation 0) (table_at (codes "CoSimulation") t) _ name token.2 in
    let found = needs_ok (refusal field.ModelIdentifier 0) (identifier (codes "modelIdentifier") unit.0) _ name unit.2 in
    let events = needs_ok (refusal field.HasEventMode 0) (flag (codes "hasEventMode") unit.0) _ name found.2 in
    let on = bind_ok (needs_that (refusal field.HasEventMode 0) events.0) _ name events.2 in
    let same : found.0 ≡ name = cc on.2 in
    subst (λ s. is_identifier s ≡ true) same (that_ok is_identifier (text (codes "modelIdentifier") unit.0) found.0 found.1)

some_terminals : (binaries : List BinaryVariable) (t : Members) (ts : List Terminal) → terminals_of binaries t ≡ Ok ts → (1 ≤ length ts) × (length ts ≤ 4)
unfolding terminals_of
some_terminals binaries t ts h =
    let rows = needs_ok (refusal field.Terminal 0) (tables 1 4 (codes "Terminal") t) (each (terminal_of binaries) []) ts h in
    let many = tables_ok 1 4 (codes "Terminal") t rows.0 rows.1 in
    let same = each_length (terminal_of binaries) [] rows.0 ts rows.2 in
    (omega (arith, many.0, same), omega (arith, many.1, same))

counted : (t : Members) (d : Description) → description_in t ≡ Ok d → (is_identifier d.identifier ≡ true) × (1 ≤ length d.terminals) × (length d.terminals ≤ 4)
unfolding description_in
counted t d h =
    let name = bind_ok (head_of t) _ d h in
    let clocks = bind_ok (clocks_of t) _ d name.2 in
    let binaries = bind_ok (binaries_of clocks.0 t) _ d clocks.2 in
    let terminals = bind_ok (terminals_of binaries.0 t) _ d binaries.2 in
    let same : record { identifier = name.0; countdown = countdown_references clocks.0; terminals = terminals.0 } ≡ d = cc terminals.2 in
    let many = some_terminals binaries.0 t terminals.0 terminals.1 in
    subst (λ (e : Description). (is_identifier e.identifier ≡ true) × (1 ≤ length e.terminals) × (length e.terminals ≤ 4)) same
    (identified t name.0 name.1, many.0, many.1)

counted_in_file : (bytes : List ℕ) (d : Description) → description_of bytes ≡ Ok d → (is_identifier d.identifier ≡ true) × (1 ≤ length d.terminals) × (length d.terminals ≤ 4)
unfolding description_of
counted_in_file bytes d h =
    let size = bind_ok (needs_that (refusal field.Size most_bytes) (nat_le (length bytes) most_bytes)) _ d h in
    let t = needs_ok (refusal field.Toml 0) (document bytes) description_in d size.2 in
    counted t.0 d t.2

-- what holds of each, holds of one of them
pub of_one : {A : Type 0} (P : A → Type 0) (x : A) (xs : List A) → AllByRecursion P xs → IsAmong x xs → P x
of_one P x [] all there = absurd there
of_one P x (y ∷ ys) all (inl same) = subst P same all.0
of_one P x (y ∷ ys) all (inr there) = of_one P x ys all.1 there

kept_at : (b : Bool) (r : ℕ) (rs : List ℕ) (x : ClockVariable) (xs : List ClockVariable) → IsReference x.reference → AllByRecursion IsReference (map (λ (c : ClockVariable). c.reference) xs)
    → AllByRecursion IsReference (map (λ (c : ClockVariable). c.reference) (cond b (x ∷ xs) xs))
kept_at true r rs x xs here rest = (here, rest)
kept_at false r rs x xs here rest = rest

countdown_ranged : (cs : List ClockVariable) → AllByRecursion (λ c. c.reference < 2 ^ 32) cs → AllByRecursion IsReference (countdown_references cs)
countdown_ranged [] all = tt
countdown_ranged (c ∷ cs) all = kept_at (is_countdown c.interval) 0 [] c (filter (λ (k : ClockVariable). is_countdown k.interval) cs) all.0 (countdown_ranged cs all.1)

binary_of_data : (binaries : List BinaryVariable) (c : Causality) (r clock most : ℕ) → AllByRecursion IsBinaryInRange binaries → IsData binaries c r clock most → IsReference r × IsReference clock × IsMaxSize most
binary_of_data binaries c r clock most ranged data_ =
    let k = of_one IsBinaryInRange data_.binary binaries ranged data_.there in
    (subst IsReference data_.named k.reference, subst IsReference data_.clocked k.clock, subst IsMaxSize data_.long (record { least = k.least; most = k.most }))

terminals_ranged : (binaries : List BinaryVariable) (ts : List Terminal) → AllByRecursion IsBinaryInRange binaries → AllByRecursion (IsTerminal binaries) ts → AllByRecursion (λ t. is_identifier t.name ≡ true) ts → AllByRecursion IsTerminalInRange ts
terminals_ranged binaries [] ranged all named = tt
terminals_ranged binaries (t ∷ ts) ranged all named =
    let rx = binary_of_data binaries _ t.rx_data t.rx_clock t.rx_max ranged all.0.rx in
    let tx = binary_of_data binaries _ t.tx_data t.tx_clock t.tx_max ranged all.0.tx in
    (record { name = named.0; rx_data = rx.0; tx_data = tx.0; rx_clock = rx.1; tx_clock = tx.1; rx_max = rx.2; tx_max = tx.2 }, terminals_ranged binaries ts ranged all.1 named.1)

pub description_ranged : (bytes : List ℕ) (d : Description) → description_of bytes ≡ Ok d → IsInRange d
description_ranged bytes d h =
    let fit = description_fits bytes d h in
    let count = counted_in_file bytes d h in
    let long = length-map (filter (λ (c : ClockVariable). is_countdown c.interval) fit.clocks) (λ (c : ClockVariable). c.reference) ∙ length-filter (λ (c : ClockVariable). is_countdown c.interval) fit.clocks in
    record {
      identifier = count.0;
      few = rw fit.countdown (rw long fit.clocks_fit.few);
      countdown = rw fit.countdown (countdown_ranged fit.clocks fit.clocks_fit.ranged);
      some = count.1;
      at_most = count.2;
      terminals = terminals_ranged fit.binaries d.terminals fit.binaries_fit.ranged fit.terminals_fit.each_is fit.terminals_fit.named;
    }
