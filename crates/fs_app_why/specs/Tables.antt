-- Rows whose cells stand in columns, each as wide as its longest cell.
use Rattle.std.specs.Prelude.{ℕ, max, List, ◌++◌, length, fold, codes}
use Rattle.std.specs.List.{flat_map}
use Rattle.fs_report.specs.Cells.{padded}
use Rattle.fs_app_why.specs.declared.table.Column.{Column}
use Rattle.fs_app_why.specs.declared.table.Column.TheVariants as column
use Rattle.fs_app_why.specs.declared.table.Row.{Row}

abbrev pub cell : Column → Row → List ℕ
cell column.Name row = row.name
cell column.Line row = row.line
cell column.Text row = row.text

abbrev pub width : Column → List Row → ℕ
width c rows = fold (λ most row. max most (length (cell c row))) 0 rows

abbrev pub padded_cell : List Row → Column → Row → List ℕ
padded_cell rows c row = padded (width c rows) (cell c row)

-- an operation, its line and its instruction, what it does, and what stands below it
abbrev pub row_text : List Row → Row → List ℕ
row_text rows row =
    codes "  " ++ (padded_cell rows column.Name row ++ (codes "  " ++ (padded_cell rows column.Line row
    ++ (codes "  " ++ (padded_cell rows column.Text row ++ (codes "  " ++ (row.does ++ (codes "\n" ++ row.below))))))))

abbrev pub table_text : List Row → List ℕ
table_text rows = flat_map (row_text rows) rows
