-- How a drawing begins, and how its shapes look.
use Rattle.std.specs.Prelude.{ℕ, List, [], ◌∷◌, ◌++◌, codes}

-- the beginning, before its attributes
abbrev pub svg_opener : List ℕ
svg_opener = codes "<svg xmlns='http://www.w3.org/2000/svg'"

-- the rules for each class of shapes, and the tip of an arrow, a line each
abbrev pub svg_rules : List ℕ
svg_rules =
    codes "<style>svg{background:#fff}text{font:11px sans-serif;fill:#222;stroke:#fff;stroke-width:3px;paint-order:stroke;pointer-events:none}path,line{fill:none;stroke:#555}rect{fill:#fff;stroke:#222}rect.system{fill:#eef4fb}rect.running{fill:#cfe6cf}rect.skipped{fill:#eee;stroke-dasharray:2 2}line.set{stroke:#8a6db1}text.set{fill:#6b4f94}text.system,text.running{stroke:none}path.edge,path.deferring,path.order{marker-end:url(#tip)}path.order{stroke:#6b4f94;stroke-width:2}.deferring{stroke-dasharray:5 3}line.sync{stroke:#bbb;stroke-width:5}text.sync{fill:#888}polygon{fill:#ffe9a8;stroke:#8a6d00}polygon.refused{fill:#fff}path.race{stroke:#c00}path.silenced{stroke:#c00;stroke-dasharray:2 3}text.race,text.silenced{fill:#c00;text-anchor:end}text.skipped{fill:#888}line.axis{stroke:#ccc}</style>"
    ++ 10 ∷ codes "<defs><marker id='tip' viewBox='0 0 8 8' refX='8' refY='4' markerWidth='7' markerHeight='7' orient='auto'><path d='M 0 0 L 8 4 L 0 8'/></marker></defs>"
    ++ 10 ∷ []
