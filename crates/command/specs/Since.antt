-- By what the meaning of a command is said.
use Rattle.ost_types.specs.declared.limits.Limits.{Limits}
use Rattle.rely_guarantee.specs.State.{SystemState}

-- The bounds; the state at the command's beginning, and that at its answer's place, which is the one at the beginning as long as the
-- command has no answer.
pub record Since : Type 0 where
  pub limits : Limits
  pub start : SystemState
  pub place : SystemState

-- a command that begins in this state
abbrev pub begun_in : Limits → SystemState → Since
begun_in limits s = record { limits = limits; start = s; place = s }

-- and once its answer has this place
abbrev pub placed : Since → SystemState → Since
placed since p = record since { place = p }
