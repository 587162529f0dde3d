-- The state of a session, in either layout of its surface.
use Rattle.std.specs.Prelude.{ℕ}
use Rattle.hd_engine.specs.declared.session.Layout.{Layout}
use Rattle.hd_engine.specs.declared.session.Layout.TheVariants.{Narrow, Wide}
use Rattle.hd_session.specs.State.{State}

abbrev pub state_in : Layout → State
state_in (Narrow w) = w.state
state_in (Wide w) = w.state

-- how many changes of the surface were counted
abbrev pub changes_in : Layout → ℕ
changes_in (Narrow w) = w.changes
changes_in (Wide w) = w.changes
