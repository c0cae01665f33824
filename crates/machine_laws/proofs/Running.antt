-- A run ends with what the code means, and has room all the way.
use Rattle.std.proofs.Common.{◌≡◌, ◌≢◌, ℕ, zero, suc, ◌+◌, ◌*◌, ◌≤◌, List, length, Some, refl, sym, ap, subst, arith}
use Rattle.std.specs.Prelude.{replicate, reverse, ◌++◌}
use Rattle.wasm_types.specs.declared.module.Module.{Module}
use Rattle.wasm_types.specs.Modules.{NestedModule, HasPlainFuncs, flat_module}
use Rattle.wasm_types.proofs.Spelled.{plain_module}
use Rattle.module_specs.specs.ModuleSpelling.{SpellsModule}
use Rattle.module_specs.proofs.SpellableParts.{module_fits}
use Rattle.code_specs.specs.Values.{Value}
use Rattle.code_specs.specs.Stores.{Store}
use Rattle.code_specs.specs.Signatures.{Function, function_at}
use Rattle.code_specs.specs.Execution.{Answer, Stuck, answer_of}
use Rattle.code_specs.specs.Validity.{IsValid}
use Rattle.code_laws.specs.Answers.{Fit}
use Rattle.code_laws.proofs.Calling.{never_stuck}
use Rattle.machine_steps.specs.Steps.{Step, Go, Stop, step_of}
use Rattle.machine_steps.specs.Answers.{bits_of_answer}
use Rattle.machine_steps.proofs.States.{Same, Keeps}
use Rattle.machine_steps.proofs.Following.{keeps}
use Rattle.machine_steps.proofs.Measure.{Falls, step_falls}
use Rattle.machine_steps.proofs.Spelled.{limits_are, same_forms, nested_is}
use Rattle.machine_steps.proofs.Whole.{room_is, begins}
use Rattle.machine_laws.specs.Runs.{beginning, after_steps, IsRoomy}

falls_more : (k n o : ℕ) (st : Step) → n ≤ o → Falls n k st → Falls o k st
falls_more k n o (Go func position base depth values labels callers s f) le h = (omega (arith, le, h.0), h.1)
falls_more k n o (Stop a) le h = h

module _ (m : NestedModule) (fm : Module) (same : Same m fm) (r : Answer Value) (ok : r ≢ Stuck) where
  -- what measures less than so many steps has ended behind them
  ended : (n : ℕ) (st : Step) → Falls n 0 st → Keeps m fm st r → after_steps m fm n st ≡ Stop (bits_of_answer r)
  ended zero (Go func position base depth values labels callers s f) h x = absurd (omega (arith, h.0))
  ended zero (Stop a) h x = ap Stop x
  ended (suc n) (Stop a) h x = ap Stop x
  ended (suc n) (Go func position base depth values labels callers s f) h x =
      let inside = (room_is m fm func position base depth values labels callers s f r ok x).inside in
      ended n (step_of m fm func position base depth values labels callers s f)
      (falls_more 0 (2 * f + (length labels + length callers)) n (step_of m fm func position base depth values labels callers s f) (omega (arith, h.0)) (step_falls m fm 0 s h.1 func position base depth values labels callers f inside))
      (keeps m fm same func position base depth values labels callers s f r ok x)

  roomy : (n : ℕ) (st : Step) → Keeps m fm st r → IsRoomy (after_steps m fm n st)
  roomy zero (Go func position base depth values labels callers s f) x = room_is m fm func position base depth values labels callers s f r ok x
  roomy zero (Stop a) x = tt
  roomy (suc n) (Stop a) x = tt
  roomy (suc n) (Go func position base depth values labels callers s f) x =
      roomy n (step_of m fm func position base depth values labels callers s f) (keeps m fm same func position base depth values labels callers s f r ok x)

module _ (m : NestedModule) (bytes : List ℕ) (spelled : SpellsModule m bytes) (valid : IsValid m) (i : ℕ) (fn : Function) (arguments : List ℕ) (s : Store) (fuel : ℕ)
    (is : function_at m i ≡ Some fn) (fit : Fit fn.ty.params arguments) where
  plain : HasPlainFuncs m
  plain = plain_module m (module_fits m bytes spelled)

  same : Same m (flat_module m)
  same = subst (λ x. Same x (flat_module m)) (nested_is (flat_module m) m refl plain) (same_forms (flat_module m) m refl plain (limits_are m bytes spelled))

  fine : answer_of m i arguments s fuel ≢ Stuck
  fine = never_stuck m valid i fn arguments s fuel is fit

  first : Keeps m (flat_module m) (beginning i fn arguments s fuel) (answer_of m i arguments s fuel)
  first =
      let x = same.each i fn is in
      begins m (flat_module m) same i fn x.0 arguments (replicate (length fn.locals) 0 ++ reverse arguments) s fuel is x.1 fit
      (ap (λ n. replicate n 0 ++ reverse arguments) (sym (ap length x.2.locals)))

  pub ends : after_steps m (flat_module m) (2 * fuel + 1) (beginning i fn arguments s fuel) ≡ Stop (bits_of_answer (answer_of m i arguments s fuel))
  ends = ended m (flat_module m) same (answer_of m i arguments s fuel) fine (2 * fuel + 1) (beginning i fn arguments s fuel) (omega arith, omega arith) first

  pub has_room : (count : ℕ) → IsRoomy (after_steps m (flat_module m) count (beginning i fn arguments s fuel))
  has_room count = roomy m (flat_module m) same (answer_of m i arguments s fuel) fine count (beginning i fn arguments s fuel) first
