use Rattle.pebr_words.proofs.steps.safe_steps.Goals as goal

pub returns : goal.returns
returns c = record {
  sound = c.steps_are_safe.ensures.sound;
  words = c.steps_are_safe.ensures.words;
  begin = c.uses_begin_at_load.ensures.begin;
  rest = c.steps_leave_the_rest.ensures;
  fresh = c.fresh_slots_are_alone.ensures;
}
