-- What holder answers, by document 01's number and its three cases.
use Rattle.std.specs.Prelude.{cond, List, ℕ, zero, suc, ◌-◌, eqb, take, Result, Ok, Err}
use Rattle.rules.specs.declared.Refusal.{Refusal}
use Rattle.rules.specs.Numbers.{number_of}
use Rattle.rules.specs.Station.{grains, slot_count}
use Rattle.rules.specs.Wrap.{wrap}
use Rattle.rules.specs.Advance.{Holding, held, idle_until, idle, held_in}
use Rattle.wrap.specs.declared.look.Holder.{Holder}
use Rattle.wrap.specs.declared.look.Holder.TheVariants.{Held, IdleUntil, Idle}

-- a refusal's number, or 0, and who holds the core
pub record Told : Type 0 where
  pub number : ℕ
  pub holding : Holding

-- of an answer that is no refusal
abbrev pub holding_by : Holder → Holding
holding_by (Held slot until) = held slot until
holding_by (IdleUntil grain) = idle_until grain
holding_by Idle = idle

unfoldable pub told_by : Result Holder Refusal → Told
told_by (Ok h) = record { number = 0; holding = holding_by h }
told_by (Err r) = record { number = number_of r; holding = idle }

unfoldable pub told_if : ℕ → Holding → Told
told_if zero h = record { number = 0; holding = h }
told_if (suc n) h = record { number = suc n; holding = idle }

-- who holds a core now: slice 0 from start to end, its row the first 64 words
unfoldable pub held_front : ℕ → ℕ → ℕ → List ℕ → ℕ → Holding
held_front start clock end w core = held_in (grains start) core (grains (clock - start)) (idle_until (grains end)) (wrap (grains (end - start)) 0 0 (take slot_count w))

-- and by the number of boundaries: with none, nothing is pending
unfoldable pub held_now : ℕ → ℕ → ℕ → ℕ → List ℕ → ℕ → Holding
held_now count start clock end w core = cond (eqb count 0) idle (held_front start clock end w core)
