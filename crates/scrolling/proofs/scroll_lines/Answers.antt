-- The page after the one scroll is the definition's, as many scrolls ahead as there are line feeds, so the text goes into rows as high above its own.
use Rattle.scrolling.proofs.LineLaws.{lines-fit, text-written}
use Rattle.scrolling.proofs.scroll_lines.Goals as goal

pub write_lines-requires : goal.write_lines-requires
write_lines-requires c = lines-fit c.args.newline c.requires c.scroll_up.ensures c.pick.ensures

pub returns : goal.returns
returns c = text-written c.args.newline c.requires c.scroll_up.ensures c.pick.ensures c.write_lines.ensures
