-- The times of all bits of a frame.
use Rattle.std.proofs.Common.{◌≡◌, ◌≤◌, ◌+◌, ◌-◌, ℕ, true, false, Bool, List, [], ◌∷◌, ◌++◌, inl, inr, fold, length, replicate, sum, refl, ap, ◌∙◌, append_assoc, arith}
use Rattle.std.proofs.lemmas.Bool.Decides.{eqb_tells}
use Rattle.std.proofs.lemmas.List.{length-append, length-replicate, length-reverse, take_all}
use Rattle.std.proofs.lemmas.List.Sums.{fold-append}
use Rattle.frame_specs.specs.Bits.{number_bits, bytes_bits}
use Rattle.frame_specs.specs.Frame.{Frame, Kind, Data, Remote, Fd}
use Rattle.frame_specs.specs.Wire.{run, settle, put, stuff_open, head, raw, error_state, dlc, stuffed, stuffed_as, body_bits, tail_bits, wire_bits, spread, body_times, times, time_of, duration}
use Rattle.frame_laws.specs.Times.{IsEnd}

-- ---- no bit is lost where more are stuffed

settle-grows : (w : List Bool) → length w ≤ length (settle w)
settle-grows w = elim (eqb_tells (run w) 5) [ inl t ↦ rw t.0 (omega arith) | inr t ↦ rw t.0 (omega arith) ]

fold-grows : (w bits : List Bool) → length w ≤ length (fold put w bits)
fold-grows w [] = omega arith
fold-grows w (b ∷ bits) = omega (arith, settle-grows w, fold-grows (put w b) bits)

open-grows : (bits more : List Bool) → length (stuff_open bits) ≤ length (stuff_open (bits ++ more))
unfolding stuff_open
open-grows bits more =
    rw (length-reverse (fold put [] bits), length-reverse (fold put [] (bits ++ more)), fold-append put [] bits more) (fold-grows (fold put [] bits) more)

head-short : (f : Frame) (brs esi : Bool) → f.kind ≡ Fd brs esi → length (stuff_open (head f)) ≤ body_bits f
unfolding stuffed
head-short f brs esi e =
    let all : raw f ≡ head f ++ (error_state f.kind ++ number_bits 4 (dlc f) ++ bytes_bits f.bytes) = grind (arith, append_assoc) in
    let shut : stuffed_as f.kind (raw f) ≡ stuff_open (raw f) = ap (λ kind. stuffed_as kind (raw f)) e in
    let grows = open-grows (head f) (error_state f.kind ++ number_bits 4 (dlc f) ++ bytes_bits f.bytes) in
    rw (shut, all) (omega (arith, grows))

-- ---- one time for each bit

length-spread : (slow bits n d : ℕ) → slow ≤ bits → length (spread slow bits n d) ≡ bits
length-spread slow bits n d h =
    length-append (replicate slow n) (replicate (bits - slow) d)
    ∙ (rw (length-replicate slow n, length-replicate (bits - slow) d) (omega arith))

length-body : (kind : Kind) (f : Frame) (n d : ℕ) → f.kind ≡ kind → length (body_times kind f n d) ≡ body_bits f
length-body (Fd true esi) f n d e = length-spread (length (stuff_open (head f))) (body_bits f) n d (head-short f true esi e)
length-body (Fd false esi) f n d e = length-replicate (body_bits f) n
length-body Data f n d e = length-replicate (body_bits f) n
length-body Remote f n d e = length-replicate (body_bits f) n

pub length-times : (f : Frame) (n d : ℕ) → length (times f n d) ≡ wire_bits f
length-times f n d =
    length-append (body_times f.kind f n d) (replicate tail_bits n)
    ∙ (rw (length-body f.kind f n d refl, length-replicate tail_bits n) refl)

pub last : IsEnd (λ f. wire_bits f - 1)
unfolding time_of duration
last f n d =
    let all : length (times f n d) ≤ wire_bits f - 1 + 1 = omega (arith, length-times f n d) in
    ap sum (take_all (wire_bits f - 1 + 1) (times f n d) all)
