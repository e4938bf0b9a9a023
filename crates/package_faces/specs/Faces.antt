-- What other packages see of a package, as a value without numbers of a table (Go 1.17, "Exported identifiers").
use Rattle.std.specs.Prelude.{ℕ, List}
use Rattle.gv_base.specs.declared.constant.Const.{Const}
use Rattle.type_model.specs.GoTypes.{GoType}
use Rattle.type_model.specs.Parts.{GoMethod}

-- what a name is exported as: a constant, a variable, a function, a defined type of the package, or an alias
pub data Form : Type 0 where
  ConstantForm : GoType → Const → Form
  VariableForm : GoType → Form
  FunctionForm : GoType → Form
  OwnForm : Form
  AliasForm : GoType → Form

pub record ObjectOut : Type 0 where
  pub name : List ℕ
  pub form : Form

-- a defined type of the package by its name, its underlying type and its methods
pub record DefinedOut : Type 0 where
  pub name : List ℕ
  pub under : GoType
  pub methods : List GoMethod

-- a package by its path and its name: its exported objects, and its own defined types that these reach
pub record Face : Type 0 where
  pub path : List ℕ
  pub name : List ℕ
  pub objects : List ObjectOut
  pub types : List DefinedOut
