-- The refusal of a buffer that is shorter than its piece. Assumes nothing.
use Rattle.keystream.specs.declared.stream.ShortBuffer.{ShortBuffer}

abbrev pub too_short : ShortBuffer
too_short = record {}
