-- Functions of Go's own packages that never return.
use Rattle.std.specs.Prelude.{ℕ, ◌&&◌, ◌||◌, Bool, false, if◌then◌else◌, List, codes, bytes_eq, is_some}
use Rattle.least.specs.Tables.{Member}
use Rattle.own_functions.specs.Functions.{number}
use Rattle.unit_read.specs.Units.{Unit}

abbrev pub is_log_name : List ℕ → Bool
is_log_name name =
    bytes_eq name (codes "Fatal") || (bytes_eq name (codes "Fatalf") || (bytes_eq name (codes "Fatalln") || (bytes_eq name (codes "Panic") || (bytes_eq name (codes "Panicf") || bytes_eq name (codes "Panicln")))))

-- functions that never return, by the path of their package and their name, where that package declares them
abbrev pub is_listed_name : List ℕ → List ℕ → Bool
is_listed_name path name =
    if bytes_eq path (codes "os") then bytes_eq name (codes "Exit")
    else (if bytes_eq path (codes "runtime") then bytes_eq name (codes "Goexit")
    else (if bytes_eq path (codes "syscall") then bytes_eq name (codes "Exit")
    else (if bytes_eq path (codes "log") then is_log_name name
    else false)))

abbrev pub listed_in : Unit → Member → Bool
listed_in u m = is_listed_name u.path m.name && is_some (number 0 u m)
