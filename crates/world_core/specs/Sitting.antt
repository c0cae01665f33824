-- The session of one unit of several. No public clause cites this file.
use Rattle.std.specs.Prelude.{◌≡◌, ◌≤◌, ◌^◌, ℕ, true, All, List, [], length, slice_get, slice_set, Some}
use Rattle.fmi_states.specs.declared.ecu.Ecu.{Ghosts}
use Rattle.fmi_states.specs.declared.phase.Phase.TheVariants.{Step}
use Rattle.unit_specs.specs.Description.{Description}
use Rattle.session_specs.specs.Outcome.{End, SessionIn, SessionOut}
use Rattle.session_specs.specs.Session.{can_begin, close_of, is_fresh, is_sublist, phase_behind, session_of}
use Rattle.world_core.specs.Units.{states_of}

-- what a session may be given
pub record IsInput (d : Description) (input : SessionIn) : Type 0 where
  pub since : input.last ≤ input.moment
  pub early : input.moment ≤ 2 ^ 62
  pub ticked : is_sublist input.ticked d.countdown ≡ true
  pub each : length input.inbox ≡ length d.terminals
  pub short : All (λ bytes. length bytes ≤ 175) input.inbox

module _ {E G S : Type 0} (g : Ghosts E G S) where
  -- a unit that is new or goes on from its last session
  pub record MaySit (input : SessionIn) (place : ℕ) (es : List E) (shared : G) : Type 0 where
    pub state : S
    pub here : slice_get (states_of g es shared) place ≡ Some state
    pub begins : can_begin (g.phase_of state) ≡ true
    pub first : is_fresh (g.phase_of state) ≡ true → input.ticked ≡ []

  -- its session, and the states behind it
  pub record Sat (d : Description) (input : SessionIn) (place : ℕ) (before : List S) (out : SessionOut) (after : List S) : Type 0 where
    pub state : S
    pub here : slice_get before place ≡ Some state
    pub came : (session_of g.answer g.phase_of d input state).0 ≡ out
    pub behind : after ≡ slice_set before place (session_of g.answer g.phase_of d input state).1
    pub phase : g.phase_of (session_of g.answer g.phase_of d input state).1 ≡ phase_behind out.end

  -- a unit that is closed, and the states behind it
  pub record Closed (place : ℕ) (before : List S) (end : End) (after : List S) : Type 0 where
    pub state : S
    pub here : slice_get before place ≡ Some state
    pub came : (close_of g.answer state).0 ≡ end
    pub behind : after ≡ slice_set before place (close_of g.answer state).1
    pub phase : g.phase_of (close_of g.answer state).1 ≡ phase_behind end

  pub record MayClose (place : ℕ) (es : List E) (shared : G) : Type 0 where
    pub state : S
    pub here : slice_get (states_of g es shared) place ≡ Some state
    pub in_step : g.phase_of state ≡ Step
