mod BodiesWithin
