mod SearchLemmas
