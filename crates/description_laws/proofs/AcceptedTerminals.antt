-- The terminals that are accepted, and a whole description.
use Rattle.std.proofs.Common.{◌≡◌, ℕ, ◌==◌, ◌&&◌, ◌||◌, not, Bool, true, false, nat_le, List, [], ◌∷◌, ◌++◌, length, Option, Some, None, Ok, refl, sym, subst, codes, cond, inl, inr}
use Rattle.std.specs.Prelude.{if◌then◌else◌}
use Rattle.std.specs.List.{list_any, find, AllByRecursion}
use Rattle.std.proofs.lemmas.Bool.{and_parts}
use Rattle.toml.specs.Data.{Members}
use Rattle.document_specs.specs.Checks.{needs_that, each}
use Rattle.document_specs.specs.Documents.{tables, document, text, identifier, is_identifier}
use Rattle.description_specs.specs.declared.variable.BinaryVariable.{BinaryVariable}
use Rattle.description_specs.specs.declared.variable.Causality.{Causality}
use Rattle.description_specs.specs.declared.variable.Causality.TheVariants.{Input, Output}
use Rattle.description_specs.specs.declared.field.Field.TheVariants as field
use Rattle.unit_specs.specs.Description.{Description, Terminal}
use Rattle.description_specs.specs.Variables.{refusal, reference, same_causality}
use Rattle.description_specs.specs.Clocks.{clocks_of, countdown_references}
use Rattle.description_specs.specs.Binaries.{binaries_of}
use Rattle.description_specs.specs.Terminals.{terminals_of, terminal_at, terminal_of, new_name, has_name, data_at, its_clock, binary_named, is_binary, is_free, stands_in}
use Rattle.description_specs.specs.Descriptions.{description_of, description_in, head_of, most_bytes}
use Rattle.description_laws.specs.Fit.{IsAmong, IsTerminal, SharesNone, ShareNone, AreTerminals, HoldsTogether}
use Rattle.description_laws.proofs.Steps.{needs_ok, that_ok, that_is, some_of, bind_ok, each_keeps, all_more}
use Rattle.description_laws.proofs.AcceptedClocks.{clocks_fit}
use Rattle.description_laws.proofs.AcceptedBinaries.{binaries_fit, alike, named}

found_more : {A : Type 0} (p : A → Bool) (y x : A) (ys : List A) (b : Bool) → p y ≡ b → cond b (Some y) (find p ys) ≡ Some x → (find p ys ≡ Some x → IsAmong x ys × (p x ≡ true)) → IsAmong x (y ∷ ys) × (p x ≡ true)
found_more p y x ys true e h rest = let same : y ≡ x = cc in (inl same, subst (λ z. p z ≡ true) same e)
found_more p y x ys false e h rest = let k = rest h in (inr k.0, k.1)

found : {A : Type 0} (p : A → Bool) (x : A) (xs : List A) → find p xs ≡ Some x → IsAmong x xs × (p x ≡ true)
found p x [] h = absurd (cc)
found p x (y ∷ ys) h = found_more p y x ys (p y) refl h (found p x ys)

-- what a value reference of data gives
data_is : (c : Causality) (binaries : List BinaryVariable) (before : List Terminal) (key : List ℕ) (t : Members) (b : BinaryVariable) → data_at c binaries before key t ≡ Some b
    → IsAmong b binaries × (b.causality ≡ c) × (is_free before b.reference ≡ true)
data_is c binaries before key t b h =
    let r = some_of (binary_named c binaries before) (reference key t) b h in
    let k = free_first (is_free before r.0) (find (is_binary c r.0) binaries) b r.2 in
    let f = found (is_binary c r.0) b binaries k.0 in
    let both = and_parts (b.reference == r.0) (same_causality c b.causality) f.1 in
    (f.0, alike c b.causality both.1, subst (λ n. is_free before n ≡ true) (sym (named b.reference r.0 both.0)) k.1)
  where
    free_first : (free : Bool) (o : Option BinaryVariable) (x : BinaryVariable) → (if free then o else None) ≡ Some x → (o ≡ Some x) × (free ≡ true)
    free_first true o x e = (e, refl)
    free_first false o x e = absurd (cc)

clock_is : (b : BinaryVariable) (before : List Terminal) (key : List ℕ) (t : Members) (r : ℕ) → its_clock b before key t ≡ Some r → (b.clock ≡ r) × (is_free before r ≡ true)
clock_is b before key t r h =
    let both = and_parts (r == b.clock) (is_free before r) (that_ok (λ k. (k == b.clock) && is_free before k) (reference key t) r h) in
    (sym (named r b.clock both.0), both.1)

-- what is free stands in none
none_of : (p : Terminal → Bool) (ts : List Terminal) → not (list_any p ts) ≡ true → AllByRecursion (λ t. p t ≡ false) ts
none_of p [] h = tt
none_of p (t ∷ ts) h = let k = both_false (p t) (list_any p ts) h in (k.0, none_of p ts k.1)
  where
    both_false : (a b : Bool) → not (a || b) ≡ true → (a ≡ false) × (not b ≡ true)
    both_false true b e = absurd (cc)
    both_false false b e = (refl, e)

together : (before : List Terminal) (x : Terminal) → AllByRecursion (λ t. stands_in x.rx_data t ≡ false) before → AllByRecursion (λ t. stands_in x.rx_clock t ≡ false) before
    → AllByRecursion (λ t. stands_in x.tx_data t ≡ false) before → AllByRecursion (λ t. stands_in x.tx_clock t ≡ false) before → AllByRecursion (λ t. SharesNone t x) before
together [] x a b c d = tt
together (t ∷ ts) x a b c d = (record { rx_data = a.0; rx_clock = b.0; tx_data = c.0; tx_clock = d.0 }, together ts x a.1 b.1 c.1 d.1)

apart_more : (before : List Terminal) (x : Terminal) → ShareNone before → AllByRecursion (λ t. SharesNone t x) before → ShareNone (before ++ x ∷ [])
apart_more [] x s a = (tt, tt)
apart_more (t ∷ ts) x s a = (all_more (SharesNone t) ts x s.0 a.0, apart_more ts x s.1 a.1)

is_identified : (before : List Terminal) (t : Members) (name : List ℕ) → new_name before t ≡ Some name → is_identifier name ≡ true
is_identified before t name h = that_ok is_identifier (text (codes "name") t) name (that_is (λ n. not (has_name before n)) (identifier (codes "name") t) name h)

terminal_step : (binaries : List BinaryVariable) (before : List Terminal) (t : Members) (x : Terminal) → AreTerminals binaries before → terminal_of binaries before t ≡ Ok x → AreTerminals binaries (before ++ x ∷ [])
unfolding terminal_at
terminal_step binaries before t x fit h =
    let name = needs_ok (refusal field.TerminalName (length before)) (new_name before t) _ x h in
    let rx = needs_ok (refusal field.TerminalRxData (length before)) (data_at Input binaries before (codes "Rx_Data") t) _ x name.2 in
    let rx_clock = needs_ok (refusal field.TerminalRxClock (length before)) (its_clock rx.0 before (codes "Rx_Clock") t) _ x rx.2 in
    let tx = needs_ok (refusal field.TerminalTxData (length before)) (data_at Output binaries before (codes "Tx_Data") t) _ x rx_clock.2 in
    let tx_clock = needs_ok (refusal field.TerminalTxClock (length before)) (its_clock tx.0 before (codes "Tx_Clock") t) _ x tx.2 in
    let made : Terminal = record { name = name.0; rx_data = rx.0.reference; tx_data = tx.0.reference; rx_clock = rx_clock.0; tx_clock = tx_clock.0; rx_max = rx.0.max_size; tx_max = tx.0.max_size } in
    let same : made ≡ x = cc tx_clock.2 in
    let a = data_is Input binaries before (codes "Rx_Data") t rx.0 rx.1 in
    let b = clock_is rx.0 before (codes "Rx_Clock") t rx_clock.0 rx_clock.1 in
    let c = data_is Output binaries before (codes "Tx_Data") t tx.0 tx.1 in
    let d = clock_is tx.0 before (codes "Tx_Clock") t tx_clock.0 tx_clock.1 in
    subst (λ y. AreTerminals binaries (before ++ y ∷ [])) same
    (record {
      each_is = all_more (IsTerminal binaries) before made fit.each_is (record {
        rx = record { binary = rx.0; there = a.0; named = refl; alike = a.1; clocked = b.0; long = refl };
        tx = record { binary = tx.0; there = c.0; named = refl; alike = c.1; clocked = d.0; long = refl };
      });
      named = all_more (λ (y : Terminal). is_identifier y.name ≡ true) before made fit.named (is_identified before t name.0 name.1);
      apart = apart_more before made fit.apart (together before made
          (none_of (stands_in rx.0.reference) before a.2) (none_of (stands_in rx_clock.0) before b.1)
          (none_of (stands_in tx.0.reference) before c.2) (none_of (stands_in tx_clock.0) before d.1));
    })

terminals_fit : (binaries : List BinaryVariable) (t : Members) (ts : List Terminal) → terminals_of binaries t ≡ Ok ts → AreTerminals binaries ts
unfolding terminals_of
terminals_fit binaries t ts h =
    let rows = needs_ok (refusal field.Terminal 0) (tables 1 4 (codes "Terminal") t) (each (terminal_of binaries) []) ts h in
    each_keeps (AreTerminals binaries) (terminal_of binaries) (terminal_step binaries) [] rows.0 ts (record { each_is = tt; named = tt; apart = tt }) rows.2

in_document : (t : Members) (d : Description) → description_in t ≡ Ok d → HoldsTogether d
unfolding description_in
in_document t d h =
    let name = bind_ok (head_of t) _ d h in
    let clocks = bind_ok (clocks_of t) _ d name.2 in
    let binaries = bind_ok (binaries_of clocks.0 t) _ d clocks.2 in
    let terminals = bind_ok (terminals_of binaries.0 t) _ d binaries.2 in
    let same : record { identifier = name.0; countdown = countdown_references clocks.0; terminals = terminals.0 } ≡ d = cc terminals.2 in
    let clocks_are = clocks_fit t clocks.0 clocks.1 in
    subst HoldsTogether same (record {
      clocks = clocks.0;
      binaries = binaries.0;
      clocks_fit = clocks_are;
      binaries_fit = binaries_fit clocks.0 t binaries.0 clocks_are binaries.1;
      terminals_fit = terminals_fit binaries.0 t terminals.0 terminals.1;
      countdown = refl;
    })

pub description_fits : (bytes : List ℕ) (d : Description) → description_of bytes ≡ Ok d → HoldsTogether d
unfolding description_of
description_fits bytes d h =
    let size = bind_ok (needs_that (refusal field.Size most_bytes) (nat_le (length bytes) most_bytes)) _ d h in
    let t = needs_ok (refusal field.Toml 0) (document bytes) description_in d size.2 in
    in_document t.0 d t.2
