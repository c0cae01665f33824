use Rattle.std.proofs.Common.{refl, ◌∙◌, ap, sym, arith, ◌++◌, length, replicate, reverse, List, ℕ, length-append, subst}
use Rattle.std.proofs.lemmas.List.{length-reverse, append-nil}
use Rattle.wasm_machine.specs.Instances.{store_in}
use Rattle.wasm_machine.proofs.Runs.{is_fine, ready_of, arguments_room, starts, stays_fine, stays_roomy, stays_on, stops, falls, never_larger, leaves_first, leaves_more}
use Rattle.wasm_memory.specs.Pools.{bytes_in, IsUnshared}
use Rattle.wasm_machine.proofs.call.run.Goals as goal

pub push_all-requires : goal.push_all-requires
push_all-requires c =
    let s = store_in c.args.pool.now c.args.instance.now in
    let r = arguments_room c.args.parts.now c.requires.checked c.args.func c.args.arguments.now c.requires.fits s c.args.fuel.now
    c.func_at.result.now c.func_at.ensures in
    omega (arith, r, ap length c.clear.ensures)

pub push_zeros-requires : goal.push_zeros-requires
push_zeros-requires c =
    let s = store_in c.args.pool.now c.args.instance.now in
    let r = arguments_room c.args.parts.now c.requires.checked c.args.func c.args.arguments.now c.requires.fits s c.args.fuel.now
    c.func_at.result.now c.func_at.ensures in
    let k = ap length c.push_all.ensures ∙ length-append (reverse c.args.arguments.now) c.clear.new.self in
    omega (arith, r, ap length c.clear.ensures, k, length-reverse c.args.arguments.now, ap length c.as_slice-locals.ensures)

pub loop-end-init : goal.loop-end-init
loop-end-init c =
    let s = store_in c.args.pool.now c.args.instance.now in
    let q = c.requires.fits in
    let values_are = c.push_zeros.ensures ∙ ap (λ (l : List ℕ). replicate (length c.as_slice-locals.result.now) 0 ++ l)
    (c.push_all.ensures ∙ ap (λ (l : List ℕ). reverse c.args.arguments.now ++ l) c.clear.ensures
    ∙ append-nil (reverse c.args.arguments.now)) ∙ ap (λ n. replicate n 0 ++ reverse c.args.arguments.now)
    (ap length c.as_slice-locals.ensures) in
    record {
      stays = rw (c.clear-2.ensures, c.clear-3.ensures) (starts c.args.parts.now c.requires.checked c.args.func c.args.arguments.now q s
          c.args.fuel.now c.func_at.result.now c.push_zeros.new.values c.func_at.ensures values_are);
      leaves = leaves_first c.args.parts.now c.args.pool.now c.args.instance.now c.requires.stands;
      grown = omega arith;
    }

pub step-requires-clause-fine : goal.step-requires-clause-fine
step-requires-clause-fine c =
    stays_fine c.args.parts.now c.requires.checked c.args.func c.args.arguments.now c.requires.fits
    (store_in c.args.pool.now c.args.instance.now) c.args.fuel.now c.loop-end.stack (store_in c.loop-end.pool c.loop-end.instance)
    c.loop-end.fuel c.loop-end.invariant.stays

pub step-requires-clause-room : goal.step-requires-clause-room
step-requires-clause-room c =
    stays_roomy c.args.parts.now c.requires.checked c.args.func c.args.arguments.now c.requires.fits
    (store_in c.args.pool.now c.args.instance.now) c.args.fuel.now c.loop-end.stack (store_in c.loop-end.pool c.loop-end.instance)
    c.loop-end.fuel c.loop-end.invariant.stays

pub step-requires-clause-ready : goal.step-requires-clause-ready
step-requires-clause-ready c = ready_of c.args.parts.now c.requires.checked

pub returns-in_err-end-clause-room : goal.returns-in_err-end-clause-room
returns-in_err-end-clause-room c = λ unshared size.
    let x = c.loop-end.invariant in
    let now = subst (IsUnshared c.loop-end.pool) (sym x.leaves.table) (x.leaves.unshared c.args.instance.now.memory.table unshared) in
    absurd (never_larger c.args.parts.now c.requires.checked c.args.func c.args.arguments.now c.requires.fits
    (store_in c.args.pool.now c.args.instance.now) c.args.fuel.now c.loop-end.stack (store_in c.loop-end.pool c.loop-end.instance)
    c.loop-end.fuel x.stays x.grown (c.in_err-end.ensures.larger now) size)

pub loop-end-smaller : goal.loop-end-smaller
loop-end-smaller c =
    let room = stays_roomy c.args.parts.now c.requires.checked c.args.func c.args.arguments.now c.requires.fits
    (store_in c.args.pool.now c.args.instance.now) c.args.fuel.now c.loop-end.stack (store_in c.loop-end.pool c.loop-end.instance)
    c.loop-end.fuel c.loop-end.invariant.stays in
    (falls c.args.parts.now (length (bytes_in c.args.pool.now c.args.instance.now.memory)) c.loop-end.stack c.step.new.self
    (store_in c.loop-end.pool c.loop-end.instance) (store_in c.step.new.pool c.step.new.instance) c.loop-end.fuel c.step.new.fuel
    c.loop-end.invariant.grown room.inside (rw c.in-Go.is at c.in_ok-end.ensures.step)).0

pub loop-end-preserved : goal.loop-end-preserved
loop-end-preserved c =
    let room = stays_roomy c.args.parts.now c.requires.checked c.args.func c.args.arguments.now c.requires.fits
    (store_in c.args.pool.now c.args.instance.now) c.args.fuel.now c.loop-end.stack (store_in c.loop-end.pool c.loop-end.instance)
    c.loop-end.fuel c.loop-end.invariant.stays in
    let went = rw c.in-Go.is at c.in_ok-end.ensures.step in
    record {
      stays = stays_on c.args.parts.now c.requires.checked c.args.func c.args.arguments.now c.requires.fits
          (store_in c.args.pool.now c.args.instance.now) c.args.fuel.now c.loop-end.stack c.step.new.self
          (store_in c.loop-end.pool c.loop-end.instance) (store_in c.step.new.pool c.step.new.instance) c.loop-end.fuel c.step.new.fuel
          c.loop-end.invariant.stays went;
      leaves = leaves_more c.args.parts.now c.args.pool.now c.loop-end.pool c.step.new.pool c.args.instance.now c.loop-end.instance
          c.step.new.instance c.loop-end.invariant.leaves c.in_ok-end.ensures.leaves;
      grown = (falls c.args.parts.now (length (bytes_in c.args.pool.now c.args.instance.now.memory)) c.loop-end.stack c.step.new.self
          (store_in c.loop-end.pool c.loop-end.instance) (store_in c.step.new.pool c.step.new.instance) c.loop-end.fuel c.step.new.fuel
          c.loop-end.invariant.grown room.inside went).1;
    }

pub returns-in_default : goal.returns-in_default
returns-in_default c = record {
  answer = stops c.args.parts.now c.requires.checked c.args.func c.args.arguments.now c.requires.fits
      (store_in c.args.pool.now c.args.instance.now) c.args.fuel.now c.in_ok-end.end c.loop-end.stack c.step.new.self
      (store_in c.loop-end.pool c.loop-end.instance) (store_in c.step.new.pool c.step.new.instance) c.loop-end.fuel c.step.new.fuel
      c.in_default.not-Go c.loop-end.invariant.stays c.in_ok-end.ensures.step;
  never = is_fine c.args.parts.now c.requires.checked c.args.func c.args.arguments.now c.requires.fits
      (store_in c.args.pool.now c.args.instance.now) c.args.fuel.now;
  leaves = leaves_more c.args.parts.now c.args.pool.now c.loop-end.pool c.step.new.pool c.args.instance.now c.loop-end.instance
      c.step.new.instance c.loop-end.invariant.leaves c.in_ok-end.ensures.leaves;
  room = λ unshared size. refl;
}

pub returns-in_err-end-clause-never : goal.returns-in_err-end-clause-never
returns-in_err-end-clause-never c = is_fine c.args.parts.now c.requires.checked c.args.func c.args.arguments.now c.requires.fits
    (store_in c.args.pool.now c.args.instance.now) c.args.fuel.now
