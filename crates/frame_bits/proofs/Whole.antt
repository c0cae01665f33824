-- The parts of a frame, one behind another, are the frame.
use Rattle.std.proofs.Common.{◌≡◌, ◌++◌, List, Bool, ℕ, ap, sym, append_assoc}
use Rattle.frame_specs.specs.Bits.{number_bits, bytes_bits}
use Rattle.frame_specs.specs.Frame.{Frame}
use Rattle.frame_specs.specs.Wire.{head, raw, error_state, dlc, stuffed, stuffed_as}

pub raw-parts : (f : Frame) (front control : List Bool) (bytes : List ℕ) → front ≡ head f → control ≡ error_state f.kind ++ number_bits 4 (dlc f)
    → bytes ≡ f.bytes → (front ++ control) ++ bytes_bits bytes ≡ raw f
raw-parts f front control bytes e1 e2 e3 =
    rw (e1, e2, e3) (ap (λ bits. bits ++ bytes_bits f.bytes) (sym (append_assoc (head f) (error_state f.kind) (number_bits 4 (dlc f)))))

pub stuffed-parts : (f : Frame) (bits : List Bool) → bits ≡ raw f → stuffed_as f.kind bits ≡ stuffed f
unfolding stuffed
stuffed-parts f bits e = ap (stuffed_as f.kind) e
