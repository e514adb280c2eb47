-- Columns, schemas and shapes, without how they lie in memory.
use Rattle.std.specs.Prelude.{ℕ, ◌≤◌, List, length, map, All, IsTrue}
use Rattle.spl_values.specs.Names.{is_name, is_distinct}
use Rattle.spl_values.specs.Kinds.{is_kind}
use Rattle.spl_values.specs.declared.kinds.ColumnType.{ColumnType}

-- a column: its name and its type
pub record ColumnParts : Type 0 where
  pub name : List ℕ
  pub kind : ColumnType

-- a schema: the table's name and its columns, in order
pub record SchemaParts : Type 0 where
  pub table : List ℕ
  pub columns : List ColumnParts

-- a shape: a schema and how many rows there are
pub record ShapeParts : Type 0 where
  pub schema : SchemaParts
  pub rows : ℕ

-- what a column keeps
pub record IsColumn (c : ColumnParts) : Type 0 where
  pub named : IsTrue (is_name c.name)
  pub typed : IsTrue (is_kind c.kind)

-- the names of columns, in order
abbrev pub names_of : List ColumnParts → List (List ℕ)
names_of columns = map (λ c. c.name) columns

-- what a schema keeps: 1 to 24 columns of different names
pub record IsSchema (s : SchemaParts) : Type 0 where
  pub named : IsTrue (is_name s.table)
  pub some : 1 ≤ length s.columns
  pub few : length s.columns ≤ 24
  pub columns : All IsColumn s.columns
  pub distinct : IsTrue (is_distinct (names_of s.columns))

-- what a shape keeps
pub record IsShape (s : ShapeParts) : Type 0 where
  pub schema : IsSchema s.schema
  pub few : s.rows ≤ 262144
