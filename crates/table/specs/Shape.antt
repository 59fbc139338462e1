-- docs/RULES.md, "Tables": the shape of every table, by its number. src/shape.rt has the same numbers, as constants. Assumes nothing.
use Rattle.std.specs.Prelude.{ℕ, ◌*◌, List, eqb}
use Rattle.refusal.specs.Pick.{pick}
use Rattle.table.specs.Table.{cell_of, capacity_of}

-- the cells of a row
abbrev pub width : ℕ → ℕ
width t =
    -- sections: id; payload: from, size; a custom section's name: from, length
    pick (eqb t 1) 5
    -- imports: module: from, length; field: from, length; kind; what is asked for: type index; type byte; flag, least, most;
    -- mutability; and which of these six are given
    (pick (eqb t 2) 12
    -- exports: name: from, length; kind; index
    (pick (eqb t 3) 4
    -- function names: index; name: from, length
    (pick (eqb t 4) 3
    -- worlds: name: from, length
    (pick (eqb t 5) 2
    -- references: world's row; direction; path: from, length; whether there is a signature; it: from, length
    (pick (eqb t 6) 7
    -- requirements: two columns, of a domain number and a row number
    (pick (eqb t 7) 1
    -- export differences: removed or added; row of table 3
    (pick (eqb t 8) 2
    -- capability differences: removed or added; domain; row of table 2
    (pick (eqb t 9) 3
    -- sorted names: row number
    (pick (eqb t 15) 1 0)))))))))

-- the most rows
abbrev pub limit : ℕ → ℕ
limit t =
    pick (eqb t 1) 256
    (pick (eqb t 2) 1024
    (pick (eqb t 3) 1024
    (pick (eqb t 4) 4096
    (pick (eqb t 5) 64
    (pick (eqb t 6) 1024
    (pick (eqb t 7) 1024
    (pick (eqb t 8) 2048
    (pick (eqb t 9) 2048
    (pick (eqb t 15) 1024 0)))))))))

-- the cells of a table at its limit
abbrev pub full_cells : ℕ → ℕ
full_cells t = limit t * width t

-- the rows of table t that n cells take
abbrev pub capacity_in : ℕ → ℕ → ℕ
capacity_in t n = capacity_of n (width t) (limit t)

-- cell j of row i of table t, which holds l
abbrev pub cell_in : ℕ → List ℕ → ℕ → ℕ → ℕ
cell_in t l i j = cell_of l (width t) i j
