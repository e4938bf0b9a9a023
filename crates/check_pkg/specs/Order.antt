-- The order of refusals, as a number, and each of them once.
use Rattle.std.specs.Prelude.{◌≡◌, ℕ, ◌+◌, ◌*◌, ◌-◌, ◌^◌, ◌⊎◌, List, Some, slice_get, length, nat_lt, nat_eq, if◌then◌else◌}
use Rattle.std.specs.List.{Contains}
use Rattle.typed_tree.specs.declared.rule.Limit.{Limit}
use Rattle.typed_tree.specs.declared.rule.Limit.TheVariants.{Float, Complex, Wide, LongText, WideType, Unsafe, Cgo, DotImport, BuildConstraint}
use Rattle.check_pkg.specs.declared.refusal.Fault.{Fault}
use Rattle.check_pkg.specs.declared.refusal.Fault.TheVariants.{Rule as RuleFault, Limit as LimitFault}
use Rattle.check_pkg.specs.declared.refusal.Refusal.{Refusal}
use Rattle.check_pkg.specs.Faults.{fault_number, IsOrdered}

abbrev pub limit_numbered : ℕ → Limit
limit_numbered n =
    if nat_eq n 0 then Float else (if nat_eq n 1 then Complex else (if nat_eq n 2 then Wide else (if nat_eq n 3 then LongText
    else (if nat_eq n 4 then WideType else (if nat_eq n 5 then Unsafe else (if nat_eq n 6 then Cgo else (if nat_eq n 7 then DotImport else BuildConstraint)))))))

-- the fault of a number
abbrev pub fault_numbered : ℕ → Fault
fault_numbered n = if nat_lt n 256 then RuleFault (record { 0 = n }) else LimitFault (limit_numbered (n - 256))

-- a number that grows in this order
abbrev pub rank_of : Refusal → ℕ
rank_of x = (x.place.file * 2 ^ 32 + x.place.offset) * 2 ^ 16 + fault_number x.fault

-- the refusal stands last, behind what stood there; it may have stood there before
pub record AddsLast (old new : List Refusal) (x : Refusal) : Type 0 where
  pub keeps : (y : Refusal) → Contains old y → Contains new y
  pub has : Contains new x
  pub only : (y : Refusal) → Contains new y → Contains old y ⊎ (y ≡ x)
  pub once : IsOrdered old → IsOrdered new
  pub last : slice_get new (length new - 1) ≡ Some x
