-- What a node takes, read off the one member at its place.
use Rattle.std.proofs.Common.{◌≡◌, ℕ, ◌<◌, ◌==◌, Bool, true, false, List, [], ◌∷◌, Some, map, filter, flat_map, slice_get, get_or, length, append-nil, sym, refl, ap, ◌∙◌, subst}
use Rattle.std.specs.Prelude.{is_some, ◌||◌}
use Rattle.std.proofs.lemmas.Option.{slice_get_read}
use Rattle.operation_specs.specs.Spelling.{spell}
use Rattle.log_specs.specs.Line.{Line, On}
use Rattle.bus_specs.specs.Bus.{Bus, Member, member_is}
use Rattle.bus_specs.specs.Inbox.{has_inbox, has_notice, inbox, items_of, members_at, take_inbox, told_notices}
use Rattle.bus_medium.specs.Places.{Rising, holds, is_at}
use Rattle.bus_medium.proofs.Placing.{found-members, missing-members, any-members}

pub inbox-missing : (b : Bus) (seen : List Member) (now node : ℕ) → seen ≡ b.members → member_is (λ m. true) seen node ≡ false
    → inbox b now node ≡ []
inbox-missing b seen now node same none =
    let e : members_at b node ≡ [] = ap (λ ms. filter (λ m. m.node == node) ms) (sym same) ∙ missing-members seen node none in
    ap (λ ms. flat_map spell (flat_map (items_of now) ms)) e

-- members as they are seen in a slice of a vector, and one that is read from the vector
found : (b : Bus) (seen xs : List Member) (node p : ℕ) (m : Member) → seen ≡ xs → xs ≡ b.members → Rising xs → p < length seen → m ≡ get_or xs p m
    → ((x : Member) → slice_get seen p ≡ Some x → x.node ≡ node) → (members_at b node ≡ m ∷ []) × (m.node ≡ node)
found b seen xs node p m sight same rising l is n =
    let at : slice_get xs p ≡ Some m = slice_get_read xs (length xs) p m refl (subst (λ ms. p < length ms) sight l) is in
    let here : m.node ≡ node = n m (ap (λ ms. slice_get ms p) sight ∙ at) in
    (ap (λ ms. filter (λ x. x.node == node) ms) (sym same) ∙ found-members xs node p m rising at here, here)

one-append : {X Y : Type 0} (f : X → List Y) (x : X) → flat_map f (x ∷ []) ≡ f x
one-append f x = simp append-nil

pub inbox-found : (b : Bus) (seen xs : List Member) (now node p : ℕ) (m : Member) → seen ≡ xs → xs ≡ b.members → Rising xs → p < length seen
    → m ≡ get_or xs p m → ((x : Member) → slice_get seen p ≡ Some x → x.node ≡ node) → inbox b now node ≡ flat_map spell (items_of now m)
inbox-found b seen xs now node p m sight same rising l is n =
    let e = (found b seen xs node p m sight same rising l is n).0 in
    ap (λ ms. flat_map spell (flat_map (items_of now) ms)) e ∙ ap (flat_map spell) (one-append (items_of now) m)

pub told-missing : (b : Bus) (seen : List Member) (now node : ℕ) → seen ≡ b.members → member_is (λ m. true) seen node ≡ false
    → (take_inbox b now node).1 ≡ []
unfolding take_inbox
told-missing b seen now node same none =
    let e : members_at b node ≡ [] = ap (λ ms. filter (λ m. m.node == node) ms) (sym same) ∙ missing-members seen node none in
    ap (λ ms. flat_map (λ m. map (On now b.setup.number node) (told_notices now m)) ms) e

pub told-found : (b : Bus) (seen xs : List Member) (now node p number : ℕ) (m : Member) → seen ≡ xs → xs ≡ b.members → Rising xs → p < length seen
    → m ≡ get_or xs p m → ((x : Member) → slice_get seen p ≡ Some x → x.node ≡ node) → number ≡ b.setup.number
    → (take_inbox b now node).1 ≡ map (On now number m.node) (told_notices now m)
unfolding take_inbox
told-found b seen xs now node p number m sight same rising l is n bus =
    let e = found b seen xs node p m sight same rising l is n in
    let tell : Member → List Line = λ (x : Member). map (On now b.setup.number node) (told_notices now x) in
    ap (λ ms. flat_map tell ms) e.0 ∙ one-append tell m
    ∙ ap (λ k. map (On now k node) (told_notices now m)) (sym bus) ∙ ap (λ k. map (On now number k) (told_notices now m)) (sym e.1)

pub any-found : (b : Bus) (now node : ℕ) → has_inbox b now node ≡ member_is (λ m. is_some m.mail || has_notice now m) b.members node
any-found b now node = any-members (λ m. is_some m.mail || has_notice now m) b.members node

-- a test of the member that is read is the test of the node
pub any-at : (b : Bus) (seen xs : List Member) (test : Member → Bool) (node p : ℕ) (m : Member) → seen ≡ xs → xs ≡ b.members → p < length seen
    → m ≡ get_or xs p m → member_is test seen node ≡ is_at test seen (Some p) → test m ≡ member_is test b.members node
any-at b seen xs test node p m sight same l is e =
    let at : slice_get xs p ≡ Some m = slice_get_read xs (length xs) p m refl (subst (λ ms. p < length ms) sight l) is in
    sym (ap (λ ms. member_is test ms node) (sym (sight ∙ same)) ∙ e ∙ ap (holds test) (ap (λ ms. slice_get ms p) sight ∙ at))
