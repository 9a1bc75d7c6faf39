-- The number of each fault: the interface of who calls through memory.
use Rattle.std.specs.Prelude.{ℕ, ℤ, pos, neg_ℤ}
use Rattle.assise_names.specs.declared.path.PathFault.{PathFault}
use Rattle.assise_names.specs.declared.path.PathFault.TheVariants.{NotAbsolute, EmptyName, BadName, NameTooLong, TooDeep, Memory}
use Rattle.assise_names.specs.declared.refusal.Refusal.{Refusal}
use Rattle.assise_names.specs.declared.refusal.Refusal.TheVariants.{OutOfMemory, Busy, NodeDown, ClientGone, InodesSpent, TooLarge, LastNode, BadNode, BadClient, WrongPhase, StaleMessage, LogFull}
use Rattle.assise_names.specs.declared.reply.TreeError.{TreeError}
use Rattle.assise_names.specs.declared.reply.TreeError.TheVariants.{NoEnt, Exists, NotDir, IsDir, NotEmpty, Invalid, TooBig, DirFull}
use Rattle.assise_renewal.specs.declared.renewal_fault.RenewalFault.{RenewalFault}
use Rattle.assise_renewal.specs.declared.renewal_fault.RenewalFault.TheVariants as renewal
use Rattle.assise_desk.specs.declared.desk_fault.DeskFault.{DeskFault}
use Rattle.assise_desk.specs.declared.desk_fault.DeskFault.TheVariants.{Tree, Refused, Path, NoCluster, BadRequest, NoRoom}

abbrev pub below_zero : ℕ → ℤ
below_zero n = neg_ℤ (pos n)

-- 1 to 8: the tree doesn't do it (E1 to E8)
abbrev pub tree_error_code : TreeError → ℤ
tree_error_code NoEnt = below_zero 1
tree_error_code Exists = below_zero 2
tree_error_code NotDir = below_zero 3
tree_error_code IsDir = below_zero 4
tree_error_code NotEmpty = below_zero 5
tree_error_code Invalid = below_zero 6
tree_error_code TooBig = below_zero 7
tree_error_code DirFull = below_zero 8

-- 101 to 112: it is refused (F1 to F12)
abbrev pub refusal_code : Refusal → ℤ
refusal_code OutOfMemory = below_zero 101
refusal_code Busy = below_zero 102
refusal_code NodeDown = below_zero 103
refusal_code ClientGone = below_zero 104
refusal_code InodesSpent = below_zero 105
refusal_code TooLarge = below_zero 106
refusal_code LastNode = below_zero 107
refusal_code BadNode = below_zero 108
refusal_code BadClient = below_zero 109
refusal_code WrongPhase = below_zero 110
refusal_code StaleMessage = below_zero 111
refusal_code LogFull = below_zero 112

-- 201 to 206: the bytes spell no path
abbrev pub path_code : PathFault → ℤ
path_code NotAbsolute = below_zero 201
path_code EmptyName = below_zero 202
path_code BadName = below_zero 203
path_code NameTooLong = below_zero 204
path_code TooDeep = below_zero 205
path_code Memory = below_zero 206

-- 301 to 303: the desk can't serve it
abbrev pub fault_code : DeskFault → ℤ
fault_code (Tree error) = tree_error_code error
fault_code (Refused refusal) = refusal_code refusal
fault_code (Path fault) = path_code fault
fault_code NoCluster = below_zero 301
fault_code BadRequest = below_zero 302
fault_code NoRoom = below_zero 303

-- ---- what is found on the way

-- what lies deeper than a path goes is as a path that does
abbrev pub of_renewal_fault : RenewalFault → DeskFault
of_renewal_fault (renewal.Refused refusal) = Refused refusal
of_renewal_fault renewal.TooDeep = Path TooDeep

abbrev pub no_memory : DeskFault
no_memory = Refused OutOfMemory

-- a path that finds no memory is refused as all is that finds none
abbrev pub of_path_fault : PathFault → DeskFault
of_path_fault Memory = no_memory
of_path_fault NotAbsolute = Path NotAbsolute
of_path_fault EmptyName = Path EmptyName
of_path_fault BadName = Path BadName
of_path_fault NameTooLong = Path NameTooLong
of_path_fault TooDeep = Path TooDeep
