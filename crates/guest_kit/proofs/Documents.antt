-- A document with an identifier more.
use Rattle.std.proofs.Common.{◌≡◌, ℕ, ◌≤◌, Bool, true, false, List, [], ◌∷◌, length, Some, None, Ok, Err, Result, String, Global, Ordering, Less, Equal, Greater, string_bytes, refl, sym, ap, subst, ◌∙◌, codes}
use Rattle.std.specs.Prelude.{IsUtf8, nat_le, if◌then◌else◌}
use Rattle.std.proofs.lemmas.Bool.{leb-true}
use Rattle.std.proofs.lemmas.Option.{same_Some}
use Rattle.std.proofs.lemmas.Str.{is_utf8-from_IsUtf8}
use Rattle.std.specs.Ordering.{match_ordering}
use Rattle.std.specs.String.{string_cmp}
use Rattle.std.specs.BTreeMap.{insert_entry}
use Rattle.toml.specs.Data.{Data, Members, member, table, members_depth}
use Rattle.toml.specs.View.{view, members_view}
use Rattle.toml.proofs.Views.{Entry}
use Rattle.toml.specs.declared.value.Value.{Value}
use Rattle.toml.specs.Parse.{parse_document}
use Rattle.document_specs.specs.Checks.{◌>>=◌, needs_that}
use Rattle.document_specs.specs.Documents.{document, that, text, table_at, identifier, is_identifier}
use Rattle.unit_specs.specs.Description.{Description, Terminal}
use Rattle.description_specs.specs.declared.field.Field.TheVariants.{Size}
use Rattle.description_specs.specs.Variables.{Refusal, refusal}
use Rattle.description_specs.specs.Descriptions.{version, head_of, description_in, most_bytes, description_of}
use Rattle.description_specs.specs.Clocks.{clock_at, clocks_of, countdown_references}
use Rattle.description_specs.specs.Binaries.{binary_at, binaries_of}
use Rattle.description_specs.specs.Terminals.{terminal_at, terminals_of}
use Rattle.description_specs.specs.declared.variable.ClockVariable.{ClockVariable}
use Rattle.description_specs.specs.declared.variable.BinaryVariable.{BinaryVariable}
use Rattle.guest_kit.specs.Described.{guest_description, described}
use Rattle.guest_kit.specs.Templates.{insert_member, co_simulation, with_identifier, template}

by_order : (o : Ordering) (k : String Global) (v : Value) (e : Entry) (es : List Entry)
    → members_view (insert_entry string_cmp es k v) ≡ insert_member (string_bytes k) (view v) (members_view es)
    → members_view (match_ordering o ((k, v) ∷ e ∷ es) ((e.0, v) ∷ es) (e ∷ insert_entry string_cmp es k v))
    ≡ match_ordering o (member (string_bytes k) (view v) (members_view (e ∷ es))) (member (string_bytes e.0) (view v) (members_view es))
    (member (string_bytes e.0) (view e.1) (insert_member (string_bytes k) (view v) (members_view es)))
by_order Less k v e es ih = refl
by_order Equal k v e es ih = refl
by_order Greater k v e es ih = ap (member (string_bytes e.0) (view e.1)) ih

-- an entry more is a member more
pub inserted : (k : String Global) (v : Value) (es : List Entry)
    → members_view (insert_entry string_cmp es k v) ≡ insert_member (string_bytes k) (view v) (members_view es)
inserted k v [] = refl
inserted k v (e ∷ es) = by_order (string_cmp k e.0) k v e es (inserted k v es)

pub named_so : (k : String Global) (v : Value) (before after : List Entry) (name : List ℕ) (d : Data)
    → after ≡ insert_entry string_cmp before k v → string_bytes k ≡ name → view v ≡ d
    → members_view after ≡ insert_member name d (members_view before)
named_so k v before after name d is key value =
    ap members_view is ∙ inserted k v before ∙ ap (λ n. insert_member n (view v) (members_view before)) key
    ∙ ap (λ e. insert_member name e (members_view before)) value

pub that_ok : {A : Type 0} (passes : A → Bool) (x : A) → passes x ≡ true → that passes x ≡ Some x
that_ok passes x h = ap (λ b. if b then Some x else None) h

pub named : (id : List ℕ) → is_identifier id ≡ true → identifier (codes "modelIdentifier") (co_simulation id) ≡ Some id
named id h = that_ok is_identifier id h

-- a description from what is read of its document
pub read_so : (t : Members) (id v m k : List ℕ) (clocks : List ClockVariable) (binaries : List BinaryVariable) (terminals : List Terminal)
    → version (codes "fmiVersion") t ≡ Some v → text (codes "modelName") t ≡ Some m → text (codes "instantiationToken") t ≡ Some k
    → table_at (codes "CoSimulation") t ≡ Some (co_simulation id) → is_identifier id ≡ true
    → clocks_of t ≡ Ok clocks → binaries_of clocks t ≡ Ok binaries → terminals_of binaries t ≡ Ok terminals
    → description_in t ≡ Ok (record { identifier = id; countdown = countdown_references clocks; terminals = terminals })
unfolding description_in head_of
read_so t id v m k clocks binaries terminals one two three unit valid c b e =
    rw (one, two, three, unit) rw (named id valid) rw c rw b rw e refl

too_long : (t : Bool) (text : List ℕ) (d : Description) (r : Result Description Refusal) → r ≡ Ok d
    → (needs_that (refusal Size most_bytes) t >>= λ size. r) ≡ (if t then Ok d else Err (refusal Size most_bytes))
too_long true text d r is = is
too_long false text d r is = refl

pub described_so : (text : List ℕ) (t : Members) (d : Description) → IsUtf8 text → parse_document text ≡ Some t → description_in t ≡ Ok d
    → description_of text ≡ described text d
unfolding description_of document
described_so text t d utf8 parsed is =
    too_long (nat_le (length text) most_bytes) text d _
    (rw (is_utf8-from_IsUtf8 text utf8) rw parsed is)

-- ---- templates

pub flat : (two countdown : Bool) (id : List ℕ) → nat_le (members_depth (with_identifier id (template two countdown))) 80 ≡ true
flat false false id = refl
flat false true id = refl
flat true false id = refl
flat true true id = refl

pub told : (two countdown : Bool) (id : List ℕ) → is_identifier id ≡ true
    → description_in (with_identifier id (template two countdown)) ≡ Ok (guest_description id two countdown)
unfolding clock_at clocks_of binary_at binaries_of terminal_at terminals_of
told false false id valid = read_so _ id _ _ _ _ _ _ refl refl refl refl valid refl refl refl
told false true id valid = read_so _ id _ _ _ _ _ _ refl refl refl refl valid refl refl refl
told true false id valid = read_so _ id _ _ _ _ _ _ refl refl refl refl valid refl refl refl
told true true id valid = read_so _ id _ _ _ _ _ _ refl refl refl refl valid refl refl refl

pub finished : (id text seen : List ℕ) (two countdown : Bool) (document unit named : Members) (printed : List ℕ)
    → parse_document text ≡ Some (template two countdown)
    → seen ≡ text → parse_document seen ≡ Some document → unit ≡ co_simulation id → named ≡ insert_member (codes "CoSimulation") (table unit) document
    → is_identifier id ≡ true → IsUtf8 printed → (members_depth named ≤ 80 → parse_document printed ≡ Some named)
    → description_of printed ≡ described printed (guest_description id two countdown)
finished id text seen two countdown document unit named printed h is_text read made inserted valid utf8 back =
    let same : document ≡ template two countdown = same_Some document (template two countdown) (sym read ∙ ap parse_document is_text ∙ h) in
    let is : named ≡ with_identifier id (template two countdown) =
    inserted ∙ ap (λ u. insert_member (codes "CoSimulation") (table u) document) made
    ∙ ap (λ d. insert_member (codes "CoSimulation") (table (co_simulation id)) d) same in
    let shallow : members_depth named ≤ 80 =
    subst (λ m. members_depth m ≤ 80) (sym is) (leb-true (members_depth (with_identifier id (template two countdown))) 80 (flat two countdown id)) in
    described_so printed named (guest_description id two countdown) utf8 (back shallow) (ap description_in is ∙ told two countdown id valid)
