-- Any two outcomes that a method's contract allows coincide: the struct, every word lent, and the answer.
use mathlib.Core.Path.{◌≡◌, ap}
use mathlib.Core.List.{List}
use Prim.Native.Nat.{ℕ}
use Rattle.rules.specs.Held.{Planner}
use Rattle.std.proofs.Common.{Result}
use Rattle.rules.specs.declared.Refusal.{Refusal}
use Rattle.calls.specs.declared.Done.{Done}
use Rattle.calls.specs.Called.{Left}
use Rattle.calls.proofs.Promises.{coincide as same_outcome}
use Rattle.planner.specs.declared.Planner.{Planner as Struct}
use Rattle.planner.specs.declared.Next.{Next}
use Rattle.planner.specs.Struct.{leaves_by}

abbrev struct : Planner → Struct
struct p = record { state = p.state; lists = p.lists }

abbrev next : Struct → Result Done Refusal → Next
next p a = record { planner = p; answer = a }

pub coincide : (l : Left) {r s : Next} {v w b c : List ℕ} → leaves_by r v b ≡ l → leaves_by s w c ≡ l → (r ≡ s) × (v ≡ w) × (b ≡ c)
coincide l {r} {s} one other =
    let e = same_outcome l one other in
    let planners : r.planner ≡ s.planner = ap struct e.planner in
    let answers = e.answer in
    let both : next r.planner r.answer ≡ next s.planner s.answer = cc in
    (both, e.words, e.buffer)
