-- What holds of pieces that follow each other.
use Rattle.std.specs.Prelude.{◌≡◌, Bool, true, false, Option, None, Some, Result, Ok, Err, cond, refl}
use Rattle.fmi_states.specs.declared.reply.Broken.{Broken}
use Rattle.binding_specs.specs.Pieces.{Work, Piece, follow, wanted}

-- this holds of the value that a piece came to, and of the work behind it
abbrev pub Leads : {A : Type 0} → (A → Work → Type 0) → Result A Broken → Work → Type 0
Leads P (Ok x) w = P x w
Leads P (Err why) w = Unit {0}

pub follow_leads : {A B : Type 0} (P : B → Work → Type 0) (r : Result A Broken) (next : A → Piece B) (w : Work)
    → ((x : A) → Leads P (next x w).0 (next x w).1) → Leads P (follow r next w).0 (follow r next w).1
follow_leads P (Ok x) next w h = h x
follow_leads P (Err why) next w h = tt

-- and of this, where the first piece comes to a value of which that holds
pub follow_knowing : {A B : Type 0} (Q : A → Work → Type 0) (P : B → Work → Type 0) (r : Result A Broken) (next : A → Piece B) (w : Work)
    → Leads Q r w → ((x : A) → Q x w → Leads P (next x w).0 (next x w).1) → Leads P (follow r next w).0 (follow r next w).1
follow_knowing Q P (Ok x) next w q h = h x q
follow_knowing Q P (Err why) next w q h = tt

-- what holds of the work before holds behind
pub follow_keeps : {A B : Type 0} (I : Work → Type 0) (r : Result A Broken) (next : A → Piece B) (w : Work)
    → I w → ((x : A) → I (next x w).1) → I (follow r next w).1
follow_keeps I (Ok x) next w i h = h x
follow_keeps I (Err why) next w i h = i

pub wanted_keeps : {A : Type 0} (I : Work → Type 0) (why : Broken) (o : Option A) (w : Work) → I w → I (wanted why o w).1
wanted_keeps I why None w i = i
wanted_keeps I why (Some x) w i = i

pub wanted_leads : {A : Type 0} (P : A → Work → Type 0) (why : Broken) (o : Option A) (w : Work)
    → ((x : A) → o ≡ Some x → P x w) → Leads P (wanted why o w).0 (wanted why o w).1
wanted_leads P why None w h = tt
wanted_leads P why (Some x) w h = h x refl

-- one of two, by a test
pub tested : {A : Type 0} (P : A → Type 0) (b : Bool) (x y : A) → (b ≡ true → P x) → (b ≡ false → P y) → P (cond b x y)
tested P true x y f g = f refl
tested P false x y f g = g refl
