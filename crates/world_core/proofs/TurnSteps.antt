-- Items, emissions and turns, one after the other.
use Rattle.std.proofs.Common.{◌≡◌, ◌<◌, ◌+◌, ◌∷◌, ◌++◌, ℕ, true, false, List, [], All, flat_map, drop, length, get_or, slice_get, refl, sym, ap, ◌∙◌, subst}
use Rattle.std.proofs.lemmas.List.{append-nil, drop_more}
use Rattle.std.proofs.lemmas.List.Sums.{fold-append}
use Rattle.std.proofs.lemmas.List.Elements.{All-head, All-tail}
use Rattle.log_specs.specs.Line.{Line}
use Rattle.operation_specs.specs.Reading.{IsWhole}
use Rattle.bus_ops.specs.ItemsIn.{items_in}
use Rattle.bus_ops.specs.Views.{item_of, items_of}
use Rattle.bus_ops.specs.declared.op.Item as code
use Rattle.bus_specs.specs.Bus.{Bus, is}
use Rattle.bus_specs.specs.Submit.{submit, submission_of}
use Rattle.session_specs.specs.Outcome.{Emission}
use Rattle.fmi_states.specs.Reply.{AreBytes}
use Rattle.world_specs.specs.Sessions.{emission_step, items_at, items_on, submission_step}
use Rattle.world_core.specs.Bare.{Bare, emitted_step}
use Rattle.world_core.specs.Asks.{MayAsk, MaySubmit, submitted}
use Rattle.world_core.proofs.Asking.{asks-step, asks-all, lines-behind}
use Rattle.world_core.proofs.Readying.{whole-in}

module _ (now node : ℕ) where
  -- an item is submitted
  pub submit-ready : (items : List code.Item) (item : code.Item) (rest : List code.Item) (b after : Bus) → items ≡ item ∷ rest
      → after ≡ (submit b now node (submission_of b.setup (item_of item))).0 → MaySubmit node (items_of items) b → MaySubmit node (items_of rest) after
  submit-ready items item rest b after e s h =
      let k : All IsWhole (item_of item ∷ items_of rest) = subst (λ (is : List code.Item). All IsWhole (items_of is)) e h.whole in
      record {
        asks = subst (MayAsk node) (sym s) (asks-step now node (b, []) (item_of item) (All-head IsWhole (item_of item) (items_of rest) k) h.asks);
        whole = All-tail IsWhole (item_of item) (items_of rest) k;
      }

  pub first-whole : (items : List code.Item) (item : code.Item) (rest : List code.Item) (b : Bus) → items ≡ item ∷ rest → MaySubmit node (items_of items) b → IsWhole (item_of item)
  first-whole items item rest b e h =
      All-head IsWhole (item_of item) (items_of rest) (subst (λ (is : List code.Item). All IsWhole (items_of is)) e h.whole)

  pub submit-whole : (items : List code.Item) (item : code.Item) (rest : List code.Item) (b after : Bus) (before behind : List Line) (line : Line) (all : Bus × List Line)
      → items ≡ item ∷ rest → after ≡ (submit b now node (submission_of b.setup (item_of item))).0 → line ≡ (submit b now node (submission_of b.setup (item_of item))).1
      → behind ≡ before ++ line ∷ [] → submitted now node (b, before) (items_of items) ≡ all → submitted now node (after, behind) (items_of rest) ≡ all
  submit-whole items item rest b after before behind line all e s l n h =
      ap (λ (x : Bus). submitted now node (x, behind) (items_of rest)) s
      ∙ ap (λ ls. submitted now node ((submit b now node (submission_of b.setup (item_of item))).0, ls) (items_of rest)) (n ∙ ap (λ x. before ++ x ∷ []) l)
      ∙ ap (λ (is : List code.Item). submitted now node (b, before) (items_of is)) (sym e)
      ∙ h

  -- an emission: on this bus
  pub emit-here : (names : List ℕ) (bus : ℕ) (es : List Emission) (i : ℕ) (e : Emission) (b after : Bus) (before behind : List Line) (all : Bus × List Line)
      → i < length es → e ≡ get_or es i e → is bus (slice_get names e.terminal) ≡ true
      → after ≡ (submitted now node (b, before) (items_in e.bytes)).0 → behind ≡ (submitted now node (b, before) (items_in e.bytes)).1
      → submitted now node (b, before) (flat_map (items_at names bus) (drop i es)) ≡ all
      → submitted now node (after, behind) (flat_map (items_at names bus) (drop (i + 1) es)) ≡ all
  emit-here names bus es i e b after before behind all inside at on s l h =
      let front : items_at names bus e ≡ items_in e.bytes = rw on refl in
      ap (λ (p : Bus × List Line). submitted now node p (flat_map (items_at names bus) (drop (i + 1) es))) (pair after behind s l)
      ∙ sym (fold-append (submission_step now node) (b, before) (items_in e.bytes) (flat_map (items_at names bus) (drop (i + 1) es)))
      ∙ ap (λ is. submitted now node (b, before) (is ++ flat_map (items_at names bus) (drop (i + 1) es))) (sym front)
      ∙ ap (λ x. submitted now node (b, before) (items_at names bus x ++ flat_map (items_at names bus) (drop (i + 1) es))) at
      ∙ ap (λ l. submitted now node (b, before) (flat_map (items_at names bus) l)) (sym (drop_more es i e inside))
      ∙ h
    where
      pair : (x : Bus) (y : List Line) → x ≡ (submitted now node (b, before) (items_in e.bytes)).0 → y ≡ (submitted now node (b, before) (items_in e.bytes)).1
          → (x, y) ≡ submitted now node (b, before) (items_in e.bytes)
      pair x y p q = rw (p, q) refl

  -- and on another
  pub emit-elsewhere : (names : List ℕ) (bus : ℕ) (es : List Emission) (i : ℕ) (e : Emission) (p all : Bus × List Line)
      → i < length es → e ≡ get_or es i e → is bus (slice_get names e.terminal) ≡ false
      → submitted now node p (flat_map (items_at names bus) (drop i es)) ≡ all → submitted now node p (flat_map (items_at names bus) (drop (i + 1) es)) ≡ all
  emit-elsewhere names bus es i e p all inside at on h =
      let front : items_at names bus e ≡ [] = rw on refl in
      ap (λ is. submitted now node p (is ++ flat_map (items_at names bus) (drop (i + 1) es))) (sym front)
      ∙ ap (λ x. submitted now node p (items_at names bus x ++ flat_map (items_at names bus) (drop (i + 1) es))) at
      ∙ ap (λ l. submitted now node p (flat_map (items_at names bus) l)) (sym (drop_more es i e inside))
      ∙ h

  pub emit-asks : (bytes : List ℕ) (b after : Bus) (before : List Line) → AreBytes bytes → after ≡ (submitted now node (b, before) (items_in bytes)).0 → MayAsk node b → MayAsk node after
  emit-asks bytes b after before h s k = subst (MayAsk node) (sym s) (asks-all now node (items_in bytes) (b, before) (whole-in bytes h) k)

pub bytes-at : (es all : List Emission) (i : ℕ) (e : Emission) → es ≡ all → All (λ (x : Emission). AreBytes x.bytes) all → i < length es → e ≡ get_or es i e → AreBytes e.bytes
bytes-at es all i e same h inside at =
    subst (λ (x : Emission). AreBytes x.bytes) (sym at) ((subst (λ xs. All (λ (x : Emission). AreBytes x.bytes) xs) (sym same) h) i e inside)

pub on-at : (names : List ℕ) (bus i j : ℕ) → i ≡ j → is bus (slice_get names i) ≡ true → is bus (slice_get names j) ≡ true
on-at names bus i j e h = subst (λ k. is bus (slice_get names k) ≡ true) e h

pub off-at : (names : List ℕ) (bus i j : ℕ) → i ≡ j → is bus (slice_get names i) ≡ false → is bus (slice_get names j) ≡ false
off-at names bus i j e h = subst (λ k. is bus (slice_get names k) ≡ false) e h

-- what a node emitted on a bus, behind the lines that are there
pub emitted-bus : (t : ℕ) (x : Bare) (b : Bus) (before : List Line) → (emitted_step t x (b, before)).0 ≡ (emission_step t x b).0
emitted-bus t x b before =
    ap (λ ls. (submitted t x.node.number (b, ls) (items_on x b.setup.number)).0) (sym (append-nil before))
    ∙ ap (λ (p : Bus × List Line). p.0) (lines-behind t x.node.number (items_on x b.setup.number) b before [])

pub emitted-lines : (t : ℕ) (x : Bare) (b : Bus) (before : List Line) → (emitted_step t x (b, before)).1 ≡ before ++ (emission_step t x b).1
emitted-lines t x b before =
    ap (λ ls. (submitted t x.node.number (b, ls) (items_on x b.setup.number)).1) (sym (append-nil before))
    ∙ ap (λ (p : Bus × List Line). p.1) (lines-behind t x.node.number (items_on x b.setup.number) b before [])
