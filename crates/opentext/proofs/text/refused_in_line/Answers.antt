-- A fault of a line tells its place and its layer.
use Rattle.std.proofs.Common.{◌≡◌, [], ◌∷◌, ◌∙◌, rules}
use Rattle.refusals.specs.Layers.{line_layer}
use Rattle.sheetlines.specs.Faults.{line_told, fault_place}
use Rattle.opentext.proofs.Told.{refused_as, place-told}
use Rattle.opentext.specs.Texts.{place_values}
use Rattle.opentext.proofs.text.refused_in_line.Goals as goal

pub returns : goal.returns
returns c =
    let fault = c.args.fault in
    let place = fault_place fault in
    let written : c.deref.result.now ≡ place_values (place.line ∷ place.column ∷ line_layer ∷ []) = search rules in
    refused_as c.refused_with.result (line_told fault) c.number.result c.deref.result.now c.number.ensures
    (written ∙ place-told fault) c.refused_with.ensures
