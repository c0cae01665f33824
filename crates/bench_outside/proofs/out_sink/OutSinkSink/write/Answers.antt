use Rattle.std.proofs.Common.{◌∙◌, ◌≤◌, ◌+◌, ℕ, List, None, Some, Ok, Err, Result, OnErr, sym}
use Rattle.std.proofs.Common.{length, take, drop}
use Rattle.std.proofs.Common.{length-drop, take-append-drop, arith}
use Rattle.std.proofs.Math.Seq.{take-add}
use Rattle.std.proofs.lemmas.List.{take_rest}
use Rattle.std.proofs.KnownBytes.{Appends-trans}
use Rattle.std.specs.Io.KnownBytes.{Appends, Keeps}
use Rattle.std.specs.declared.option.Option.{Option}
use Rattle.bench_outside.proofs.out_sink.OutSinkSink.write.Goals as goal

-- so many bytes of the rest end within the whole
within : (bytes : List ℕ) (pos n : ℕ) → pos ≤ length bytes → n ≤ length (drop pos bytes)
    → pos + n ≤ length bytes
within bytes pos n inside taken = omega (arith, length-drop pos bytes)

-- what was appended still is, after a write that kept all
Appends-kept : (a b c : Option (List ℕ)) (bytes : List ℕ) → Appends a b bytes → Keeps b c
    → Appends a c bytes
Appends-kept None b c bytes appended kept = tt
Appends-kept (Some x) None c bytes appended kept = absurd appended
Appends-kept (Some x) (Some y) None bytes appended kept = absurd kept
Appends-kept (Some x) (Some y) (Some z) bytes appended kept = kept ∙ appended

-- what holds anyway holds after an error
on_err : {V E P : Type 0} (result : Result V E) → P → OnErr result P
on_err (Ok v) holds = tt
on_err (Err e) holds = holds

pub returns-in_err-at-clause-part_through : goal.returns-in_err-at-clause-part_through
returns-in_err-at-clause-part_through g c =
    let bytes = c.args.bytes.now in
    let at = c.loop-at.at in
    on_err c.from_residual.result (
      take at bytes,
      (drop at bytes, sym (take-append-drop at bytes)),
      Appends-kept _ _ _ _ c.loop-at.invariant.1 c.in_err-at.ensures.bytes,
    )

pub loop-at-preserved : goal.loop-at-preserved
loop-at-preserved g c =
    let bytes = c.args.bytes.now in
    let at = c.loop-at.at in
    let n = c.in_ok-at.field-0 in
    let taken = rw (take_rest bytes at) at c.in_ok-at.ensures in (
      within bytes at n c.loop-at.invariant.0 taken.bound,
      rw (take-add at n bytes)
          (Appends-trans _ _ _ _ _ c.loop-at.invariant.1 taken.bytes),
      taken.cause.kept ∙ c.loop-at.invariant.2,
    )
