-- An accepted description is one of a plan, and the names of its terminals all differ.
use Rattle.std.proofs.Common.{◌≡◌, ℕ, ◌==◌, ◌||◌, Bool, true, false, nat_le, List, [], ◌∷◌, ◌++◌, length, All, Ok, refl, sym, ap, subst, ◌∙◌, codes}
use Rattle.std.specs.Prelude.{not, bytes_eq, flat_map}
use Rattle.std.specs.List.{AllByRecursion}
use Rattle.std.proofs.lemmas.List.Elements.{All-nil, All-cons}
use Rattle.std.proofs.lemmas.List.Folds.{list_any-append}
use Rattle.std.proofs.lemmas.Slice.Eq.{bytes_eq-Decides}
use Rattle.toml.specs.Data.{Members}
use Rattle.document_specs.specs.Checks.{needs_that, each}
use Rattle.document_specs.specs.Documents.{document, tables, identifier}
use Rattle.unit_specs.specs.Description.{Terminal, Description}
use Rattle.bus_specs.specs.Bus.{among}
use Rattle.world_specs.specs.World.{AreDistinct}
use Rattle.world_specs.specs.Plan.{references, IsTerminal, IsDescription}
use Rattle.description_specs.specs.declared.field.Field.TheVariants as field
use Rattle.description_specs.specs.declared.variable.Causality.TheVariants.{Input, Output}
use Rattle.description_specs.specs.declared.variable.BinaryVariable.{BinaryVariable}
use Rattle.description_specs.specs.Variables.{refusal}
use Rattle.description_specs.specs.Clocks.{clocks_of, countdown_references}
use Rattle.description_specs.specs.Binaries.{binaries_of}
use Rattle.description_specs.specs.Terminals.{is_named, has_name, new_name, data_at, its_clock, terminal_at, terminal_of, terminals_of}
use Rattle.description_specs.specs.Descriptions.{description_of, description_in, head_of, most_bytes}
use Rattle.description_laws.specs.Fit.{AreDifferent, of_terminals}
use Rattle.description_laws.specs.Ranges.{IsReference, IsTerminalInRange}
use Rattle.description_laws.proofs.Steps.{needs_ok, that_ok, bind_ok, each_keeps, either_false, flipped}
use Rattle.description_laws.proofs.InRange.{description_ranged}
use Rattle.description_laws.proofs.References.{references_different}

-- ---- names

abbrev pub NamesDiffer : List Terminal → Type 0
NamesDiffer [] = Unit {0}
NamesDiffer (t ∷ ts) = (has_name ts t.name ≡ false) × NamesDiffer ts

not_true : (b : Bool) → not b ≡ true → b ≡ false
not_true true h = absurd (cc)
not_true false h = refl

false_unless : (b : Bool) → (b ≡ true → ⊥) → b ≡ false
false_unless true h = absurd (h refl)
false_unless false h = refl

turned : (xs ys : List ℕ) → bytes_eq xs ys ≡ false → bytes_eq ys xs ≡ false
turned xs ys h = false_unless (bytes_eq ys xs) (λ e. let same = (bytes_eq-Decides xs ys).1 (sym ((bytes_eq-Decides ys xs).0 e)) in absurd (cc (h, same)))

neither : (a b : Bool) → a ≡ false → b ≡ false → (a || (b || false)) ≡ false
neither a b p q = rw (p, q)

names_more : (ts : List Terminal) (t : Terminal) → NamesDiffer ts → has_name ts t.name ≡ false → NamesDiffer (ts ++ t ∷ [])
names_more [] t differ h = (refl, tt)
names_more (u ∷ ts) t differ h =
    let k = either_false (is_named t.name u) (has_name ts t.name) h in
    (list_any-append (is_named u.name) ts (t ∷ []) ∙ neither (has_name ts u.name) (bytes_eq t.name u.name) differ.0 (turned u.name t.name k.0), names_more ts t differ.1 k.1)

new_named : (place : ℕ) (binaries : List BinaryVariable) (before : List Terminal) (row : Members) (t : Terminal) → terminal_at place binaries before row ≡ Ok t → has_name before t.name ≡ false
unfolding terminal_at
new_named place binaries before row t h =
    let name = needs_ok (refusal field.TerminalName place) (new_name before row) _ t h in
    let rx = needs_ok (refusal field.TerminalRxData place) (data_at Input binaries before (codes "Rx_Data") row) _ t name.2 in
    let rx_clock = needs_ok (refusal field.TerminalRxClock place) (its_clock rx.0 before (codes "Rx_Clock") row) _ t rx.2 in
    let tx = needs_ok (refusal field.TerminalTxData place) (data_at Output binaries before (codes "Tx_Data") row) _ t rx_clock.2 in
    let tx_clock = needs_ok (refusal field.TerminalTxClock place) (its_clock tx.0 before (codes "Tx_Clock") row) _ t tx.2 in
    let same : record { name = name.0; rx_data = rx.0.reference; tx_data = tx.0.reference; rx_clock = rx_clock.0; tx_clock = tx_clock.0; rx_max = rx.0.max_size; tx_max = tx.0.max_size } ≡ t = cc tx_clock.2 in
    subst (λ (s : List ℕ). has_name before s ≡ false) (ap (λ (x : Terminal). x.name) same)
    (not_true (has_name before name.0) (that_ok (λ s. not (has_name before s)) (identifier (codes "name") row) name.0 name.1))

terminals_named : (binaries : List BinaryVariable) (t : Members) (ts : List Terminal) → terminals_of binaries t ≡ Ok ts → NamesDiffer ts
unfolding terminals_of
terminals_named binaries t ts h =
    let rows = needs_ok (refusal field.Terminal 0) (tables 1 4 (codes "Terminal") t) (each (terminal_of binaries) []) ts h in
    each_keeps NamesDiffer (terminal_of binaries)
    (λ before row x differ is. names_more before x differ (new_named (length before) binaries before row x is)) [] rows.0 ts tt rows.2

document_named : (t : Members) (d : Description) → description_in t ≡ Ok d → NamesDiffer d.terminals
unfolding description_in
document_named t d h =
    let name = bind_ok (head_of t) _ d h in
    let clocks = bind_ok (clocks_of t) _ d name.2 in
    let binaries = bind_ok (binaries_of clocks.0 t) _ d clocks.2 in
    let terminals = bind_ok (terminals_of binaries.0 t) _ d binaries.2 in
    let same : record { identifier = name.0; countdown = countdown_references clocks.0; terminals = terminals.0 } ≡ d = cc terminals.2 in
    subst (λ (e : Description). NamesDiffer e.terminals) same (terminals_named binaries.0 t terminals.0 terminals.1)

pub names_differ : (bytes : List ℕ) (d : Description) → description_of bytes ≡ Ok d → NamesDiffer d.terminals
unfolding description_of
names_differ bytes d h =
    let size = bind_ok (needs_that (refusal field.Size most_bytes) (nat_le (length bytes) most_bytes)) _ d h in
    let t = needs_ok (refusal field.Toml 0) (document bytes) description_in d size.2 in
    document_named t.0 d t.2

-- ---- ranges

pub all_of : {A : Type 0} {P Q : A → Type 0} → ((x : A) → P x → Q x) → (xs : List A) → AllByRecursion P xs → All Q xs
all_of {A = A} {P = P} {Q = Q} weaker [] h = All-nil Q
all_of {A = A} {P = P} {Q = Q} weaker (x ∷ xs) h = All-cons Q x xs (weaker x h.0) (all_of {A = A} {P = P} {Q = Q} weaker xs h.1)

one_terminal : (t : Terminal) → IsTerminalInRange t → IsTerminal t
one_terminal t h = record {
  rx_max = (h.rx_max.least, h.rx_max.most);
  tx_max = (h.tx_max.least, h.tx_max.most);
  references = all_of {A = ℕ} {P = IsReference} {Q = IsReference} (λ r k. k) (references t) (h.rx_data, (h.tx_data, (h.rx_clock, (h.tx_clock, tt))));
}

-- ---- references, in another order

swapped : (p q r : Bool) → (p || (q || r)) ≡ (q || (p || r))
swapped true true r = refl
swapped true false r = refl
swapped false q r = refl

both_false : (a b : Bool) → a ≡ false → b ≡ false → (a || b) ≡ false
both_false a b p q = rw (p, q)

among_alike : (ts : List Terminal) (k : ℕ) → among (flat_map references ts) k ≡ among (of_terminals ts) k
among_alike [] k = refl
among_alike (t ∷ ts) k =
    ap (λ b. (t.rx_data == k) || b) (swapped (t.tx_data == k) (t.rx_clock == k) ((t.tx_clock == k) || among (flat_map references ts) k)
    ∙ ap (λ b. (t.rx_clock == k) || ((t.tx_data == k) || ((t.tx_clock == k) || b))) (among_alike ts k))

terminals_distinct : (ts : List Terminal) → AreDifferent (of_terminals ts) → AreDistinct (flat_map references ts)
terminals_distinct [] h = tt
terminals_distinct (t ∷ ts) h =
    let alike = among_alike ts in
    let second = either_false (t.tx_data == t.rx_clock) ((t.tx_clock == t.rx_clock) || among (of_terminals ts) t.rx_clock) h.1.0 in (
      among_alike_first t ts ∙ h.0,
      (
        both_false (t.rx_clock == t.tx_data) ((t.tx_clock == t.tx_data) || among (flat_map references ts) t.tx_data) (flipped t.rx_clock t.tx_data second.0)
            (ap (λ b. (t.tx_clock == t.tx_data) || b) (alike t.tx_data) ∙ h.1.1.0),
        (
          ap (λ b. (t.tx_clock == t.rx_clock) || b) (alike t.rx_clock) ∙ second.1,
          (alike t.tx_clock ∙ h.1.1.1.0, terminals_distinct ts h.1.1.1.1),
        ),
      ),
    )
  where
    among_alike_first : (t : Terminal) (ts : List Terminal) → among (t.tx_data ∷ t.rx_clock ∷ t.tx_clock ∷ flat_map references ts) t.rx_data ≡ among (t.rx_clock ∷ t.tx_data ∷ t.tx_clock ∷ of_terminals ts) t.rx_data
    among_alike_first t ts =
        swapped (t.tx_data == t.rx_data) (t.rx_clock == t.rx_data) ((t.tx_clock == t.rx_data) || among (flat_map references ts) t.rx_data)
        ∙ ap (λ b. (t.rx_clock == t.rx_data) || ((t.tx_data == t.rx_data) || ((t.tx_clock == t.rx_data) || b))) (among_alike ts t.rx_data)

behind : (ns xs ys : List ℕ) → ((k : ℕ) → among ys k ≡ among xs k) → (AreDifferent xs → AreDistinct ys) → AreDifferent (ns ++ xs) → AreDistinct (ns ++ ys)
behind [] xs ys alike distinct h = distinct h
behind (n ∷ ns) xs ys alike distinct h =
    (list_any-append (λ m. m == n) ns ys ∙ (ap (λ b. among ns n || b) (alike n) ∙ (sym (list_any-append (λ m. m == n) ns xs) ∙ h.0)), behind ns xs ys alike distinct h.1)

pub unit_planned : (bytes : List ℕ) (d : Description) → description_of bytes ≡ Ok d → IsDescription d
unit_planned bytes d h =
    let ranged = description_ranged bytes d h in
    record {
      some_terminals = (ranged.some, ranged.at_most);
      few_clocks = ranged.few;
      terminals = all_of {A = Terminal} {P = IsTerminalInRange} {Q = IsTerminal} one_terminal d.terminals ranged.terminals;
      clocks = all_of {A = ℕ} {P = IsReference} {Q = IsReference} (λ r k. k) d.countdown ranged.countdown;
      references = behind d.countdown (of_terminals d.terminals) (flat_map references d.terminals) (among_alike d.terminals) (terminals_distinct d.terminals) (references_different bytes d h);
    }
