-- What clauses say of a unit over its shared value, at a bound `E: Ecu`.
use Rattle.std.specs.Prelude.{◌≡◌}
use Rattle.fmi_states.specs.declared.phase.Phase.{Phase}
use Rattle.fmi_states.specs.declared.ecu.Ecu.{Ghosts}
use Rattle.fmi_states.specs.Parts.{Spares}

module _ {E G S : Type 0} (g : Ghosts E G S) where
  -- the unit's parts are in the shared value, and its state has this phase
  pub record IsReady (phase : Phase) (unit : E) (shared : G) : Type 0 where
    pub here : g.is_in unit shared
    pub in_phase : g.phase_of (g.state unit shared) ≡ phase

  -- Every part but the unit's own is as it was.
  -- Unless memory ran out, as `Unless` says (`OnOk result`), the unit has the parts that it had,
  -- and they are still there.
  pub record StaysApart (Unless : Type 0 → Type 0) (old new : E) (before now : G)
      : Type 0 where
    pub parts : Unless (g.parts new ≡ g.parts old)
    pub here : Unless (g.is_in new now)
    pub others : Spares g.part (g.parts old) before now
