-- What is left of bits that were stuffed.
use Rattle.std.proofs.Common.{◌≡◌, ◌+◌, ◌==◌, Bool, true, false, not, List, [], ◌∷◌, ◌++◌, inl, inr, fold, reverse, if◌then◌else◌, refl, sym, ap, subst, ◌∙◌, append_assoc}
use Rattle.std.specs.Bool.{beq}
use Rattle.std.proofs.lemmas.Bool.Decides.{eqb_tells}
use Rattle.std.proofs.lemmas.List.{append-nil, reverse-append}
use Rattle.frame_specs.specs.Frame.{Frame, Kind, Data, Remote, Fd}
use Rattle.frame_specs.specs.Wire.{run, front, settle, put, stuff, stuff_open, raw, stuffed, stuffed_as}
use Rattle.frame_laws.specs.Unstuffing.{unstuffed_behind, unstuffed, IsUndone}
use Rattle.frame_laws.specs.Checksum.{crc_bits, covered}

-- what was written, the newest bit first, leaves these bits, whatever comes behind it
abbrev Leaves : List Bool → List Bool → Type 0
Leaves w bits = (rest : List Bool) → unstuffed (reverse w ++ rest) ≡ bits ++ unstuffed_behind (front w) (run w) rest

run-next : (b : Bool) (w : List Bool) → run (b ∷ w) ≡ (if beq b (front w) then run w + 1 else 1)
run-next true [] = refl
run-next false [] = refl
run-next b (c ∷ w) = refl

-- a stuff bit begins a run of one
run-stuff : (w : List Bool) → run w ≡ 5 → run (not (front w) ∷ w) ≡ 1
run-stuff [] h = refl
run-stuff (true ∷ w) h = refl
run-stuff (false ∷ w) h = refl

newest-behind : (b : Bool) (w rest : List Bool) → reverse (b ∷ w) ++ rest ≡ reverse w ++ b ∷ rest
newest-behind b w rest = ap (λ xs. xs ++ rest) (reverse-append (b ∷ []) w) ∙ append_assoc (reverse w) (b ∷ []) rest

-- a bit that isn't due stays
stays : (b : Bool) (w rest : List Bool) → (run w == 5) ≡ false
    → unstuffed_behind (front w) (run w) (b ∷ rest) ≡ b ∷ unstuffed_behind b (run (b ∷ w)) rest
stays b w rest e = rw (e, run-next b w) refl

-- one that is due is dropped
dropped : (w rest : List Bool) → (run w == 5) ≡ true → run w ≡ 5
    → unstuffed_behind (front w) (run w) (not (front w) ∷ rest) ≡ unstuffed_behind (not (front w)) (run (not (front w) ∷ w)) rest
dropped w rest e five = rw (e, run-stuff w five) refl

Leaves-bit : (w bits : List Bool) (b : Bool) → (run w == 5) ≡ false → Leaves w bits → Leaves (b ∷ w) (bits ++ b ∷ [])
Leaves-bit w bits b e h rest =
    ap unstuffed (newest-behind b w rest)
    ∙ h (b ∷ rest)
    ∙ ap (λ xs. bits ++ xs) (stays b w rest e)
    ∙ sym (append_assoc bits (b ∷ []) (unstuffed_behind b (run (b ∷ w)) rest))

Leaves-stuff : (w bits : List Bool) → (run w == 5) ≡ true → run w ≡ 5 → Leaves w bits → Leaves (not (front w) ∷ w) bits
Leaves-stuff w bits e five h rest =
    ap unstuffed (newest-behind (not (front w)) w rest)
    ∙ h (not (front w) ∷ rest)
    ∙ ap (λ xs. bits ++ xs) (dropped w rest e five)

-- a settled list leaves the same, and no stuff bit is due behind it
abbrev IsSettled : List Bool → List Bool → Type 0
IsSettled w bits = ((run w == 5) ≡ false) × Leaves w bits

IsSettled-settle : (w bits : List Bool) → Leaves w bits → IsSettled (settle w) bits
IsSettled-settle w bits h =
    elim (eqb_tells (run w) 5) [
      | inl t ↦ rw t.0 (ap (λ n. n == 5) (run-stuff w t.1), Leaves-stuff w bits t.0 t.1 h)
      | inr t ↦ rw t.0 (t.0, h)
    ]

Leaves-fold : (w bits more : List Bool) → Leaves w bits → Leaves (fold put w more) (bits ++ more)
Leaves-fold w bits [] h = subst (Leaves w) (sym (append-nil bits)) h
Leaves-fold w bits (b ∷ more) h =
    let settled = IsSettled-settle w bits h in
    let next : Leaves (put w b) (bits ++ b ∷ []) = Leaves-bit (settle w) bits b settled.0 settled.1 in
    subst (Leaves (fold put (put w b) more)) (append_assoc bits (b ∷ []) more) (Leaves-fold (put w b) (bits ++ b ∷ []) more next)

Leaves-written : (bits : List Bool) → Leaves (fold put [] bits) bits
Leaves-written bits = Leaves-fold [] [] bits (λ rest. refl)

whole : (w bits : List Bool) → Leaves w bits → unstuffed (reverse w) ≡ bits
whole w bits h = ap unstuffed (sym (append-nil (reverse w))) ∙ h [] ∙ append-nil bits

pub undone-open : IsUndone stuff_open
unfolding stuff_open
undone-open bits = whole (fold put [] bits) bits (Leaves-written bits)

pub undone : IsUndone stuff
unfolding stuff
undone bits = whole (settle (fold put [] bits)) bits (IsSettled-settle (fold put [] bits) bits (Leaves-written bits)).1

undone-as : (kind : Kind) (bits : List Bool) → unstuffed (stuffed_as kind bits) ≡ covered kind bits
undone-as (Fd brs esi) bits = undone-open bits
undone-as Data bits = undone (bits ++ crc_bits bits)
undone-as Remote bits = undone (bits ++ crc_bits bits)

pub undone-frame : (f : Frame) → unstuffed (stuffed f) ≡ covered f.kind (raw f)
unfolding stuffed
undone-frame f = undone-as f.kind (raw f)
