-- The buses of the terminals of a node.
use Rattle.std.proofs.Common.{◌≡◌, ℕ, suc, ◌<◌, ◌≤◌, ◌==◌, ◌||◌, Bool, true, false, List, [], ◌∷◌, length, All, Some, None, refl, sym, ap, subst, ◌∙◌, arith, cond, inl, inr}
use Rattle.std.specs.Prelude.{option_map, if◌then◌else◌, map}
use Rattle.std.specs.List.{find, AllByRecursion}
use Rattle.std.proofs.lemmas.Bool.Decides.{nat_tests}
use Rattle.std.proofs.lemmas.List.{length-map}
use Rattle.std.proofs.lemmas.List.Elements.{All-nil, All-cons}
use Rattle.std.proofs.lemmas.Slice.Eq.{bytes_eq-Decides}
use Rattle.unit_specs.specs.Description.{Terminal}
use Rattle.bus_specs.specs.Bus.{among}
use Rattle.world_specs.specs.World.{AreDistinct}
use Rattle.description_specs.specs.Terminals.{is_named, has_name}
use Rattle.description_laws.specs.Fit.{IsAmong}
use Rattle.description_laws.proofs.Steps.{some_of, any_of_map}
use Rattle.network_specs.specs.Nodes.{Attachment, stands_on}
use Rattle.network_specs.specs.Plans.{is_attached, bus_of_terminal, buses_of_terminals, attached_buses}
use Rattle.network_laws.proofs.InRange.{mapped_ok}
use Rattle.network_laws.proofs.Numbers.{is_among, among_is, number_among, all_there, one_of}
use Rattle.network_laws.proofs.Units.{NamesDiffer}

abbrev pub on : List Attachment → List ℕ
on attachments = map (λ (a : Attachment). a.bus) attachments

found : {A : Type 0} (p : A → Bool) (x : A) (xs : List A) → find p xs ≡ Some x → IsAmong x xs × (p x ≡ true)
found p x [] h = absurd (cc)
found p x (y ∷ ys) h = by_test (p y) refl h (λ k. found p x ys k)
  where
    by_test : (b : Bool) → p y ≡ b → cond b (Some y) (find p ys) ≡ Some x → (find p ys ≡ Some x → IsAmong x ys × (p x ≡ true)) → IsAmong x (y ∷ ys) × (p x ≡ true)
    by_test true e k more = let same : y ≡ x = cc k in (inl same, subst (λ z. p z ≡ true) same e)
    by_test false e k more = let m = more k in (inr m.0, m.1)

-- an attachment of this terminal and bus is there
pub record Holds (attachments : List Attachment) (name : List ℕ) (bus : ℕ) : Type 0 where
  pub attachment : Attachment
  pub there : IsAmong attachment attachments
  pub terminal : attachment.terminal ≡ name
  pub on_bus : attachment.bus ≡ bus

abbrev pub Stand : List Attachment → List Terminal → List ℕ → Type 0
Stand attachments [] [] = Unit {0}
Stand attachments [] (b ∷ bs) = ⊥
Stand attachments (t ∷ ts) [] = ⊥
Stand attachments (t ∷ ts) (b ∷ bs) = Holds attachments t.name b × Stand attachments ts bs

holds : (attachments : List Attachment) (name : List ℕ) (bus : ℕ) → bus_of_terminal attachments name ≡ Some bus → Holds attachments name bus
holds attachments name bus h =
    let a = mapped_ok (λ (x : Attachment). x.bus) (find (is_attached name) attachments) bus h in
    let m = found (is_attached name) a.0 attachments a.1 in
    record { attachment = a.0; there = m.0; terminal = (bytes_eq-Decides a.0.terminal name).0 m.1; on_bus = a.2 }

stand : (attachments : List Attachment) (ts : List Terminal) (bs : List ℕ) → buses_of_terminals attachments ts ≡ Some bs → Stand attachments ts bs
stand attachments [] bs h = let e : [] ≡ bs = cc h in subst (Stand attachments []) e tt
stand attachments (t ∷ ts) bs h =
    let k = some_of (λ bus. option_map (λ buses. bus ∷ buses) (buses_of_terminals attachments ts)) (bus_of_terminal attachments t.name) bs h in
    let m = mapped_ok (λ buses. k.0 ∷ buses) (buses_of_terminals attachments ts) bs k.2 in
    subst (Stand attachments (t ∷ ts)) m.2 (holds attachments t.name k.0 k.1, stand attachments ts m.0 m.1)

as_many : (attachments : List Attachment) (ts : List Terminal) (bs : List ℕ) → Stand attachments ts bs → length bs ≡ length ts
as_many attachments [] [] h = refl
as_many attachments [] (b ∷ bs) h = absurd h
as_many attachments (t ∷ ts) [] h = absurd h
as_many attachments (t ∷ ts) (b ∷ bs) h = ap suc (as_many attachments ts bs h.1)

-- the terminal that stands on a bus
holder : (attachments : List Attachment) (ts : List Terminal) (bs : List ℕ) (k : ℕ) → Stand attachments ts bs → IsAmong k bs → (t : Terminal) × IsAmong t ts × Holds attachments t.name k
holder attachments ts [] k h m = absurd m
holder attachments [] (b ∷ bs) k h m = absurd h
holder attachments (t ∷ ts) (b ∷ bs) k h (inl e) = (t, inl refl, subst (Holds attachments t.name) e h.0)
holder attachments (t ∷ ts) (b ∷ bs) k h (inr m) = let r = holder attachments ts bs k h.1 m in (r.0, inr r.1, r.2)

within : (attachments : List Attachment) (ts : List Terminal) (bs : List ℕ) → Stand attachments ts bs → (k : ℕ) → IsAmong k bs → IsAmong k (on attachments)
within attachments ts bs h k m =
    let r = (holder attachments ts bs k h m).2 in
    subst (λ n. IsAmong n (on attachments)) r.on_bus (number_among (λ (a : Attachment). a.bus) attachments r.attachment r.there)

or_right : (a b : Bool) → b ≡ true → (a || b) ≡ true
or_right true b h = refl
or_right false b h = h

or_left : (a b : Bool) → a ≡ true → (a || b) ≡ true
or_left true b h = refl
or_left false b h = absurd (cc)

has_its_name : (ts : List Terminal) (t : Terminal) (name : List ℕ) → IsAmong t ts → t.name ≡ name → has_name ts name ≡ true
has_its_name [] t name m h = absurd m
has_its_name (u ∷ us) t name (inl e) h = or_left (is_named name u) (has_name us name) ((bytes_eq-Decides u.name name).1 (ap (λ (x : Terminal). x.name) e ∙ h))
has_its_name (u ∷ us) t name (inr m) h = or_right (is_named name u) (has_name us name) (has_its_name us t name m h)

false_unless : (b : Bool) → (b ≡ true → ⊥) → b ≡ false
false_unless true h = absurd (h refl)
false_unless false h = refl

different : (attachments : List Attachment) (ts : List Terminal) (bs : List ℕ) → Stand attachments ts bs → NamesDiffer ts → AreDistinct (on attachments) → AreDistinct bs
different attachments [] [] h names apart = tt
different attachments [] (b ∷ bs) h names apart = absurd h
different attachments (t ∷ ts) [] h names apart = absurd h
different attachments (t ∷ ts) (b ∷ bs) h names apart =
    (false_unless (among bs b) twice, different attachments ts bs h.1 names.1 apart)
  where
    twice : among bs b ≡ true → ⊥
    twice m =
        let r = holder attachments ts bs b h.1 (among_is bs b m) in
        let same = one_of (λ (a : Attachment). a.bus) attachments h.0.attachment r.2.attachment apart h.0.there r.2.there (h.0.on_bus ∙ sym r.2.on_bus) in
        let name : r.0.name ≡ t.name = sym r.2.terminal ∙ (sym (ap (λ (a : Attachment). a.terminal) same) ∙ h.0.terminal) in
        let there = has_its_name ts r.0 t.name r.1 name in
        absurd (cc (names.0, there))

pub all_from : (P : ℕ → Type 0) (bs : List ℕ) → ((k : ℕ) → IsAmong k bs → P k) → All P bs
all_from P [] h = All-nil P
all_from P (b ∷ bs) h = All-cons P b bs (h b (inl refl)) (all_from P bs (λ k m. h k (inr m)))

pub of_one : {A : Type 0} (P : A → Type 0) (x : A) (xs : List A) → AllByRecursion P xs → IsAmong x xs → P x
of_one P x [] all there = absurd there
of_one P x (y ∷ ys) all (inl same) = subst P same all.0
of_one P x (y ∷ ys) all (inr there) = of_one P x ys all.1 there

-- what is known of the buses of a node
pub record AreAttached (buses : ℕ) (attachments : List Attachment) (ts : List Terminal) (bs : List ℕ) : Type 0 where
  pub one_each : length bs ≡ length ts
  pub there : All (λ bus. bus < buses) bs
  pub distinct : AreDistinct bs
  pub all_of_them : (bus : ℕ) → stands_on attachments bus ≡ true → among bs bus ≡ true

same_count : (n m : ℕ) → (n == m) ≡ true → n ≡ m
same_count n m h = grind (arith, nat_tests)

pub are_attached : (buses : ℕ) (attachments : List Attachment) (ts : List Terminal) (bs : List ℕ) → attached_buses attachments ts ≡ Some bs → NamesDiffer ts
    → AllByRecursion (λ bus. bus < buses) (on attachments) → AreDistinct (on attachments) → AreAttached buses attachments ts bs
are_attached buses attachments ts bs h names low apart = by_count (length attachments == length ts) refl h
  where
    by_count : (b : Bool) → (length attachments == length ts) ≡ b → (if b then buses_of_terminals attachments ts else None) ≡ Some bs → AreAttached buses attachments ts bs
    by_count false e k = absurd (cc k)
    by_count true e k =
        let s = stand attachments ts bs k in
        let many = as_many attachments ts bs s in
        let distinct = different attachments ts bs s names apart in
        let count : length (on attachments) ≤ length bs = omega (arith, length-map attachments (λ (a : Attachment). a.bus), same_count (length attachments) (length ts) e, many) in
        record {
          one_each = many;
          there = all_from (λ bus. bus < buses) bs (λ n m. of_one (λ bus. bus < buses) n (on attachments) low (within attachments ts bs s n m));
          distinct = distinct;
          all_of_them = λ bus stands. is_among bs bus (all_there bs (on attachments) distinct (within attachments ts bs s) count bus
              (among_is (on attachments) bus (any_of_map (λ (a : Attachment). a.bus) bus attachments ∙ stands)));
        }
